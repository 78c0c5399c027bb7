-- A pull between two instances whose keepers hold what the history shows comes to what it comes to there.
use Rattle.std.proofs.Common.{◌≡◌, Option, Some, None, refl, sym, ap, ◌∙◌, if◌then◌else◌}
use Rattle.misp_orgs.specs.Admin.{link_of, who_of}
use Rattle.misp_orgs.specs.declared.link.Link.{Link}
use Rattle.misp_outside.specs.Held.{Held}
use Rattle.misp_model.proofs.Prelude.{AreRows, Inst, OrgId}
use Rattle.misp_history.specs.Acts.{World}
use Rattle.misp_history.specs.History.{tables}
use Rattle.misp_core.specs.Prelude.{Ask, Caller, Host, Keeps, Seen, forbidden, is_permitted, seen_in}
use Rattle.misp_core.proofs.Keeping.{groups_there}
use Rattle.misp_protocol.specs.declared.cause.Cause.{Cause}
use Rattle.misp_sync.specs.History.{seen_of}
use Rattle.misp_sync.specs.Pulled.{ends, pulled, pulled_by, pulled_over, synced as told}
use Rattle.misp_client.specs.Telling.{refused_as}
use Rattle.misp_sync.proofs.Coming.{Sees, pulled_for}
use Rattle.misp_sync.proofs.OwnRows.{held_tells, history_tells}
use Rattle.misp_store.specs.Raw.{rows_in}
use Rattle.misp_store.proofs.HeldRows.{rows_again}

-- ---- what is seen

module _ (w : World) (here : Inst) (peer : Host) where
  -- what keepers hold shows what the history shows
  pub held_sees : (own there : Held) → Keeps here w own → Keeps peer.name w there → Sees w here peer (seen_in own) (seen_in there)
  held_sees own there keeps peers = record {
    own_groups = groups_there here w own keeps;
    there_groups = groups_there peer.name w there peers;
    there_rows = ap rows_in peers.rows ∙ rows_again _ peers.are_rows;
    tells = λ o groups coming t a. held_tells here w o groups coming t a own keeps;
  }

  history_sees : Sees w here peer (seen_of w here) (seen_of w peer.name)
  history_sees = record { own_groups = refl; there_groups = refl; there_rows = refl; tells = λ o groups coming t a. history_tells here w o groups coming t a }

-- ---- what it comes to

module _ (w : World) (here : Inst) (peer : Host) (are : AreRows (tables w.log peer.name)) (own there own' there' : Seen) (a : Sees w here peer own there) (b : Sees w here peer own' there') where
  by_alike : (holder : OrgId) (caller : Option Caller) → pulled_by here holder peer caller own there ≡ pulled_by here holder peer caller own' there'
  by_alike holder None = refl
  by_alike holder (Some caller) =
      ap (λ e. if is_permitted caller Ask.SyncGroups then e else ends (Some (refused_as (forbidden Ask.SyncGroups))))
      (pulled_for w peer caller here holder own there a are ∙ sym (pulled_for w peer caller here holder own' there' b are))

  over_alike : (link : Option Link) → pulled_over here link peer own there ≡ pulled_over here link peer own' there'
  over_alike None = refl
  over_alike (Some link) = ap (λ e. if link.on then e else ends (Some Cause.LinkOff)) (by_alike link.holder (who_of peer.admin link.key))

-- where what is seen is what the history shows, a pull comes to what the history says
pub told_there : (w : World) (here peer : Host) (link : Inst) (own there : Held) → Keeps here.name w own → Keeps peer.name w there
    → pulled here link peer (seen_in own) (seen_in there) ≡ pulled here link peer (seen_of w here.name) (seen_of w peer.name)
unfolding pulled
told_there w here peer link own there keeps peers =
    ap told (over_alike w here.name peer peers.are_rows (seen_in own) (seen_in there) (seen_of w here.name) (seen_of w peer.name)
    (held_sees w here.name peer own there keeps peers) (history_sees w here.name peer) (link_of here.admin.links link))
