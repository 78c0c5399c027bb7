use Rattle.std.proofs.Common.{◌≡◌, List, ap, sym, subst, ◌∙◌, filter}
use Rattle.misp_model.specs.Prelude.{Key, Row}
use Rattle.misp_model.specs.Package.{IsPackage}
use Rattle.misp_model.specs.declared.package.PackageFields.{PackageFields}
use Rattle.misp_model.specs.Manifests.{is_asked_for, only_of}
use Rattle.misp_wanted.proofs.KeySets.{kept_are}
use Rattle.misp_wanted.proofs.OnlyRows.{only_is}
use Rattle.misp_wanted.proofs.selecting.only.Goals as goal

pub of-requires : goal.of-requires
unfolding only_of
of-requires c =
    let fields : PackageFields = c.package.inside.fields in
    let keys : List Key = c.args.keys.now in
    let rows : c.rows_kept-rows.result ≡ filter (is_asked_for fields.event keys) fields.rows =
    c.rows_kept-rows.ensures ∙ kept_are c.in_ok-set.set keys fields.event fields.rows c.in_ok-set.ensures in
    let make : List Row → PackageFields = λ rs. record { event = fields.event; part = fields.part; parts = fields.parts; rows = rs } in
    subst (λ rs. IsPackage (make rs)) (sym rows) (only_is keys fields c.package.invariant)

pub returns : goal.returns
unfolding only_of
returns c =
    let fields : PackageFields = c.package.inside.fields in
    let keys : List Key = c.args.keys.now in
    let rows : c.rows_kept-rows.result ≡ filter (is_asked_for fields.event keys) fields.rows =
    c.rows_kept-rows.ensures ∙ kept_are c.in_ok-set.set keys fields.event fields.rows c.in_ok-set.ensures in
    let make : List Row → PackageFields = λ rs. record { event = fields.event; part = fields.part; parts = fields.parts; rows = rs } in
    c.of.ensures ∙ ap make rows ∙ ap (only_of keys) c.package.view_is
