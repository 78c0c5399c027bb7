use Rattle.std.proofs.Common.{◌≡◌, ap, sym, ◌∙◌, subst, Some, None, option_copied}
use Rattle.misp_elem.specs.Visible.{IsWhole}
use Rattle.misp_model.specs.Shown.{event_row, shown}
use Rattle.misp_model.proofs.KnownShown.{shown_known}
use Rattle.misp_view.specs.View.{scene_of}
use Rattle.misp_view.proofs.Forming.{shown_some, shown_none}
use Rattle.misp_view.proofs.Wholeness.{whole_is}
use Rattle.misp_view.proofs.form.shown.Goals as goal

pub returns-in_ok-form-in-Some : goal.returns-in_ok-form-in-Some
returns-in_ok-form-in-Some c =
    let found : event_row (scene_of c.args.groups.now c.args.here.now c.args.org.now c.args.rows.now) c.args.event.now c.args.owner ≡ Some c.in-Some.row.now = sym c.event_row.ensures ∙ ap option_copied c.in-Some.is in
    let seen : Some c.in_ok-form-in-Some.field-0 ≡ shown (scene_of c.args.groups.now c.args.here.now c.args.org.now c.args.rows.now) c.args.event.now c.args.owner =
    shown_some (scene_of c.args.groups.now c.args.here.now c.args.org.now c.args.rows.now) c.args.event.now c.args.owner c.in-Some.row.now c.in_ok-form-in-Some.field-0 found c.in_ok-form-in-Some.ensures.form in
    record {
      seen = seen;
      known = λ table. seen ∙ sym (shown_known c.args.rows.now (scene_of c.args.groups.now c.args.here.now c.args.org.now c.args.rows.now) table c.args.event.now c.args.owner);
      whole = λ table.
          subst IsWhole (sym c.in_ok-form-in-Some.ensures.form)
          (whole_is c.args.groups.now c.args.here.now c.args.org.now c.args.rows.now c.args.event.now c.in_ok-form-in-Some.ensures.rows table c.args.owner c.in-Some.row.now found);
    }

pub returns-in-None : goal.returns-in-None
returns-in-None c =
    let seen : None ≡ shown (scene_of c.args.groups.now c.args.here.now c.args.org.now c.args.rows.now) c.args.event.now c.args.owner =
    shown_none (scene_of c.args.groups.now c.args.here.now c.args.org.now c.args.rows.now) c.args.event.now c.args.owner (sym c.event_row.ensures ∙ ap option_copied c.in-None.is) in
    record {
      seen = seen;
      known = λ table. seen ∙ sym (shown_known c.args.rows.now (scene_of c.args.groups.now c.args.here.now c.args.org.now c.args.rows.now) table c.args.event.now c.args.owner);
      whole = λ table. tt;
    }
