-- A request is told the same over the history without what its organisation was never granted.
use Rattle.std.proofs.Common.{◌≡◌, ℕ, Bool, true, List, Option, Ok, Err, refl, sym, ◌∙◌, ap, subst, option_map}
use Rattle.misp_lists.proofs.Lists.{filter_all}
use Rattle.misp_history.proofs.Prelude.{Inst, IsClosed, Key, OrgId, World, cut, cut_rows, known, known_at, known_cut, list_all, same_org, same_org-sound, tables, tables_cut}
use Rattle.misp_erasure.specs.Erasure.{cut_world, HasKnown}
use Rattle.misp_core.specs.Answers.{scene_at, reply_in}
use Rattle.misp_core.specs.Handing.{knowing}
use Rattle.misp_core.specs.Prelude.{Effect}
use Rattle.misp_net.specs.Prelude.{Reply}
use Rattle.misp_api.specs.Prelude.{Caller, Commanded, Host, Reading, command_effect, replied}
use Rattle.misp_api.specs.declared.command.Command.{Command}
use Rattle.misp_api.proofs.Forms.{AskedBy}
use Rattle.misp_net.specs.Hosts.{host_at}
use Rattle.misp_net.specs.History.{seen_by, is_asker}
use Rattle.misp_net.proofs.AllSeen.{over_seen}

-- over a set of keys that has all that the organisation knows
module _ (keep : Key → Bool) (closed : IsClosed keep) (o : OrgId) (hosts : List Host) where
  -- it knows the same over the history without the others
  own_rows : (w : World) (i : Inst) (org : OrgId) → same_org org o ≡ true → HasKnown o keep w → known (tables (cut keep w.log) i) (w.groups i) i org ≡ known (tables w.log i) (w.groups i) i org
  unfolding known_at cut_rows
  own_rows w i org same has =
      let granted : list_all (λ row. keep row.key) (known (tables w.log i) (w.groups i) i org) ≡ true =
      ap (λ x. list_all (λ row. keep row.key) (known (tables w.log i) (w.groups i) i x)) (same_org-sound org o same) ∙ has.granted i in
      ap (λ rows. known rows (w.groups i) i org) (tables_cut keep closed w.log i)
      ∙ known_cut keep closed (tables w.log i) (w.groups i) i org
      ∙ filter_all (λ row. keep row.key) (known (tables w.log i) (w.groups i) i org) granted

  own_command : (w : World) (at now : ℕ) (caller : Caller) (command : Command) → same_org caller.org o ≡ true → HasKnown o keep w
      → (command_effect (host_at at hosts) now caller command (seen_by hosts (cut_world keep w) at)).reply ≡ (command_effect (host_at at hosts) now caller command (seen_by hosts w at)).reply
  unfolding cut_world
  own_command w at now caller (Command.Asks ask) same has =
      let host : Host = host_at at hosts in
      ap (λ (e : Effect Reply). e.reply) (over_seen hosts (cut_world keep w) at now caller ask)
      ∙ ap (λ rows. reply_in host.admin (knowing (scene_at host now caller (w.groups host.name)) rows) ask) (own_rows w host.name caller.org same has)
      ∙ sym (ap (λ (e : Effect Reply). e.reply) (over_seen hosts w at now caller ask))
  own_command w at now caller (Command.TakesGroups coming) same has = refl
  own_command w at now caller (Command.Shares add g) same has = refl
  own_command w at now caller (Command.Manages ask) same has = refl

  pub own_reply : (w : World) (at now : ℕ) (form : Reading Commanded) (caller : Option Caller) → AskedBy caller form → is_asker o (option_map (λ c. c.org) caller) ≡ true → HasKnown o keep w
      → (replied (host_at at hosts) now form (seen_by hosts (cut_world keep w) at)).reply ≡ (replied (host_at at hosts) now form (seen_by hosts w at)).reply
  own_reply w at now (Ok it) caller by own has =
      own_command w at now it.0 it.1 (subst (λ (c : Option Caller). is_asker o (option_map (λ (d : Caller). d.org) c) ≡ true) by own) has
  own_reply w at now (Err refusal) caller by own has = refl
