use Rattle.std.proofs.Common.{◌≡◌, ◌∷◌, ◌∙◌, map, rules, subst, sym}
use Rattle.misp_model.proofs.Prelude.{AreRows}
use Rattle.misp_package.specs.Packing.{on_wire}
use Rattle.misp_package.proofs.Packages.{IsWired, part_wired, whole_rows}
use Rattle.misp_package.proofs.packing.package.Goals as goal

pub all_on_wire-requires : goal.all_on_wire-requires
all_on_wire-requires c = whole_rows c.args.event.now (c.args.own.now ∷ map (λ r. r.now) c.args.others.now) c.requires.part.packable.each

pub of-requires-2 : goal.of-requires-2
of-requires-2 c =
    let is : c.of.result ≡ map (on_wire c.args.way) (c.args.own.now ∷ map (λ r. r.now) c.args.others.now) = c.of.ensures ∙ c.in_ok-rows.ensures.wired in
    let wired : IsWired c.args.event.now c.of.result =
    subst (IsWired c.args.event.now) (sym is) (part_wired c.args.way c.args.event.now c.args.own.now (map (λ r. r.now) c.args.others.now) c.requires.part c.in_ok-rows.ensures.rows) in record {
      event = search rules;
      part = c.requires.number;
      parts = search rules;
      count = wired.count;
      first = wired.first;
      packed = wired.packed;
      ascend = wired.ascend;
      rows = subst AreRows (sym is) c.in_ok-rows.ensures.rows;
    }
