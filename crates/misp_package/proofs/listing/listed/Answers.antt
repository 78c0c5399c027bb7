use Rattle.std.proofs.Common.{◌≡◌, ◌∷◌, ◌∙◌, List, ap, arith, length, le-leb, map, rules, subst, sym}
use Rattle.misp_manifest.specs.Manifest.{IsKeysOfPart, key_stamp}
use Rattle.misp_manifest.specs.declared.manifest.KeyStamp.{KeyStamp}
use Rattle.misp_manifest.specs.declared.manifest.ManifestFields.{ManifestFields}
use Rattle.misp_model.proofs.Prelude.{AllByRecursion, and_from, length-map}
use Rattle.misp_package.specs.Packing.{rows_in}
use Rattle.misp_package.proofs.Listed.{listed_parts, said_parts}
use Rattle.misp_package.proofs.listing.listed.Goals as goal

pub of-requires : goal.of-requires
of-requires c =
    let parts : List (List KeyStamp) = c.in_ok-parts.parts in
    let size : length parts ≡ length c.args.parts.now =
    ap length c.in_ok-parts.ensures.keys ∙ length-map (rows_in c.args.parts.now) (λ part. map key_stamp (c.args.own.now ∷ part)) ∙ length-map c.args.parts.now (λ part. map (λ r. r.now) part.now) in
    record {
      event = search rules;
      count = and_from _ _ (le-leb 1 (length parts) (omega (arith, size, c.requires.some))) (le-leb (length parts) 4294967295 (omega (arith, size)));
      parts = subst (AllByRecursion (IsKeysOfPart c.args.event.now)) (sym c.in_ok-parts.ensures.keys) (listed_parts c.args.event.now c.args.own.now (rows_in c.args.parts.now) c.requires.fit c.in_ok-parts.ensures.rows);
    }

pub returns : goal.returns
returns c =
    let make : List (List KeyStamp) → ManifestFields = λ parts. record { event = c.args.event.now; parts = parts } in
    c.of.ensures ∙ ap make (c.in_ok-parts.ensures.keys ∙ said_parts c.args.own.now (rows_in c.args.parts.now))
