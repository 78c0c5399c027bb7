-- An instance that is synchronised, or not where memory ran out before.
use Rattle.std.proofs.Common.{◌≡◌, ◌<◌, ◌&&◌, ℕ, zero, suc, Bool, true, false, not, if◌then◌else◌, cond, List, [], ◌∷◌, length, get_or, remove, bytes_eq, Option, Some, None, option_map, Result, Ok, Err, IfSome, IfOk, inl, inr, refl, sym, ◌∙◌, ap, subst, arith}
use Rattle.std.specs.Prelude.{find}
use Rattle.std.proofs.lemmas.List.{get_or-map}
use Rattle.std.proofs.lemmas.Slice.Eq.{bytes_eq-Decides}
use Rattle.misp_orgs.specs.Admin.{link_of}
use Rattle.misp_orgs.specs.declared.link.Link.{Link}
use Rattle.misp_outside.specs.Causes.{HasCause}
use Rattle.misp_outside.proofs.Reporting.{stays_same}
use Rattle.misp_effects.specs.KeeperStates.{AreKept}
use Rattle.misp_core.specs.Prelude.{Host, KeeperState, Standing}
use Rattle.misp_script.specs.Faults.{Reading}
use Rattle.misp_script.specs.declared.description.Entry.{Entry}
use Rattle.misp_dialogue.specs.Parties.{GrowsBy}
use Rattle.misp_protocol.specs.Counts.{no_count}
use Rattle.misp_protocol.specs.declared.cause.Cause.{Cause}
use Rattle.misp_sync.specs.Causes.{bar_of, usable_link}
use Rattle.misp_sync.specs.Dialled.{trail_to}
use Rattle.misp_sync.specs.Synchronised.{HasSynchronised, IsTrailOver, Stays}
use Rattle.misp_sync.specs.Wire.{wire_state}
use Rattle.misp_sync.specs.declared.reply.SyncReply.{SyncReply}
use Rattle.misp_sync.proofs.Synchronised.{not_synchronised}
use Rattle.misp_net.specs.Hosts.{nobody}
use Rattle.misp_net.specs.Prelude.{Description, described_host, described_hosts, host_at}
use Rattle.misp_net.specs.declared.places.NetFault.{NetFault}
use Rattle.misp_words.specs.Words.{Check, CommandData, Sync, SyncData, command_data, sync_data}
use Rattle.misp_words.specs.declared.command.Command.{Command}
use Rattle.misp_words.specs.declared.command.SyncWords.{SyncWords}
use Rattle.misp_app.specs.Ends.{IsReadEnd}
use Rattle.misp_app.specs.Source.{described, host_named}
use Rattle.misp_app.specs.Status.{status_after}
use Rattle.misp_app.specs.Synchronising.{Dialled, HasSyncLine, HasSynced, IsCutSync, IsUnasked, Synchronised, SyncsOver, address_beside, peer_address}
use Rattle.misp_app.specs.declared.status.Status.{Status}

-- ---- an instance and the others

-- the instance of a place, by its entry
pub host_there : (net : Description) (place : ℕ) (entry : Entry) → place < length net.instances → entry ≡ get_or net.instances place entry → host_at place (described_hosts net) ≡ described_host entry
host_there net place entry inside is = get_or-map described_host net.instances place entry nobody inside ∙ ap described_host (sym is)

-- what is found is found without one that is not looked for
found_without : {X : Type 0} (p : X → Bool) (xs : List X) (place : ℕ) (x : X) → p x ≡ false → x ≡ get_or xs place x → find p (remove xs place) ≡ find p xs
found_without p [] zero x fails is = refl
found_without p [] (suc place) x fails is = refl
found_without p (y ∷ ys) zero x fails is = let first : p y ≡ false = subst (λ z. p z ≡ false) is fails in rw first refl
found_without p (y ∷ ys) (suc place) x fails is = ap (λ rest. cond (p y) (Some y) rest) (found_without p ys place x fails is)

never : (b : Bool) → (b && false) ≡ false
never true = refl
never false = refl

-- none is beside itself
not_beside : (here name : List ℕ) → (bytes_eq here name && not (bytes_eq here here)) ≡ false
not_beside here name = let same : bytes_eq here here ≡ true = (bytes_eq-Decides here here).1 refl in rw same (never (bytes_eq here name))

-- so the others have the address that all have
pub found_beside : (entries : List Entry) (place : ℕ) (entry : Entry) (name : List ℕ) → entry ≡ get_or entries place entry → address_beside entry.name (remove entries place) name ≡ address_beside entry.name entries name
found_beside entries place entry name is =
    ap (option_map (λ (e : Entry). e.address)) (found_without (λ (e : Entry). bytes_eq e.name name && not (bytes_eq e.name entry.name)) entries place entry (not_beside entry.name name) is)

-- what holds of an instance holds of the instance of the name
pub named : (o : Option Host) (host : Host) (P : Host → Type 0) → Some host ≡ o → P host → IfSome o P
named o host P is holds = subst (λ x. IfSome x P) is holds

-- ---- over a link

-- why it is not usable is what bars it
barred_by : (o : Option Link) (why : Cause) → usable_link o ≡ Err why → bar_of o ≡ Some why
barred_by None why is = let same : Cause.NoLink ≡ why = cc in ap Some same
barred_by (Some it) why is = by_flag it.on is
  where
    by_flag : (b : Bool) → ◌≡◌ {A = Result Link Cause} (if b then Ok it else Err Cause.LinkOff) (Err why) → (if b then None else Some Cause.LinkOff) ≡ Some why
    by_flag true is = absurd cc
    by_flag false is = let same : Cause.LinkOff ≡ why = cc in ap Some same

-- one that is usable is there, and nothing bars it
usable_is : (o : Option Link) (link : Link) → usable_link o ≡ Ok link → (o ≡ Some link) × (bar_of o ≡ None)
usable_is None link is = absurd cc
usable_is (Some it) link is = by_flag it.on is
  where
    by_flag : (b : Bool) → ◌≡◌ {A = Result Link Cause} (if b then Ok it else Err Cause.LinkOff) (Ok link) → (Some it ≡ Some link) × (◌≡◌ {A = Option Cause} (if b then None else Some Cause.LinkOff) None)
    by_flag true is = let same : it ≡ link = cc in (ap Some same, refl)
    by_flag false is = absurd cc

unfailed : (n : ℕ) (told : Type 0) → (told → ⊥) → HasCause n n told
unfailed n told not_told = record { later = omega arith; rose = λ t. absurd (not_told t) }

-- over one that is barred nothing is asked
module _ (words : SyncData) (address : Option (List ℕ)) (start : Standing) (d : Dialled) (why : Cause) (barred : usable_link (link_of start.admin.links words.link) ≡ Err why) where
  no_course : (o : Option (List ℕ))
      → IfSome o (λ at. GrowsBy (trail_to at d.asks) (trail_to at d.asks) (IsTrailOver words.direction (link_of start.admin.links words.link) start start.held None None (SyncReply.Stopped no_count why)))
  no_course None = tt
  no_course (Some at) = (not_synchronised words.direction words.link start (wire_state None (trail_to at d.asks) d.faults) why barred).course

  pub barred_over : SyncsOver words address start start d d (SyncReply.Stopped no_count why)
  barred_over =
      let bar : bar_of (link_of start.admin.links words.link) ≡ Some why = barred_by (link_of start.admin.links words.link) why barred in
      let none = not_synchronised words.direction words.link start (wire_state None None d.faults) why barred in
      record {
        barred = subst (λ o. IfSome o (λ cause. IsUnasked cause start start d d (SyncReply.Stopped no_count why))) (sym bar) (record { just = refl; still = refl; none = refl });
        alone = λ clear nobody. absurd (let no_ : Some why ≡ None = sym bar ∙ clear in cc);
        course = no_course address;
        kept = λ push. stays_same start.held start.held refl;
        cause = none.cause;
        link = none.wire;
        name = refl;
        admin = refl;
      }

-- over one that is not the peer is one of the other instances, or there is none
module _ (words : SyncData) (entries : List Entry) (start : Standing) (link : Link) (usable : usable_link (link_of start.admin.links words.link) ≡ Ok link) where
  clear : bar_of (link_of start.admin.links words.link) ≡ None
  clear = (usable_is (link_of start.admin.links words.link) link usable).1

  found : peer_address start.name entries (link_of start.admin.links words.link) ≡ address_beside start.name entries link.peer
  found = ap (peer_address start.name entries) (usable_is (link_of start.admin.links words.link) link usable).0

  pub alone_over : (d : Dialled) → None ≡ address_beside start.name entries link.peer
      → SyncsOver words (peer_address start.name entries (link_of start.admin.links words.link)) start start d d (SyncReply.Stopped no_count Cause.NoPeer)
  alone_over d nobody = record {
    barred = subst (λ o. IfSome o (λ cause. IsUnasked cause start start d d (SyncReply.Stopped no_count Cause.NoPeer))) (sym clear) tt;
    alone = λ on none. record { just = refl; still = refl; none = refl };
    course = subst (λ o. IfSome o (λ at. GrowsBy (trail_to at d.asks) (trail_to at d.asks) (IsTrailOver words.direction (link_of start.admin.links words.link) start start.held None None (SyncReply.Stopped no_count Cause.NoPeer))))
        (nobody ∙ sym found) tt;
    kept = λ push. stays_same start.held start.held refl;
    cause = unfailed start.faults _ (λ told. cc);
    link = unfailed d.faults _ (λ told. cc);
    name = refl;
    admin = refl;
  }

  pub peer_over : (end : Standing) (before after : Dialled) (reply : SyncReply) (at : List ℕ) → Some at ≡ address_beside start.name entries link.peer
      → HasSynchronised words.direction words.link start end (wire_state None (trail_to at before.asks) before.faults) (wire_state None (trail_to at after.asks) after.faults) reply
      → SyncsOver words (peer_address start.name entries (link_of start.admin.links words.link)) start end before after reply
  peer_over end before after reply at there went = record {
    barred = subst (λ o. IfSome o (λ cause. IsUnasked cause start end before after reply)) (sym clear) tt;
    alone = λ on none. absurd (let no_ : Some at ≡ None = there ∙ sym found ∙ none in cc);
    course = subst (λ o. IfSome o (λ to. GrowsBy (trail_to to before.asks) (trail_to to after.asks) (IsTrailOver words.direction (link_of start.admin.links words.link) start end.held None None reply)))
        (there ∙ sym found) went.course;
    kept = λ push. subst (λ direction. Stays direction start end None None) push went.kept;
    cause = went.cause;
    link = went.wire;
    name = went.same.name;
    admin = went.same.admin;
  }

-- ---- among the others is among all

peer_among : (here : List ℕ) (others entries : List Entry) → ((name : List ℕ) → address_beside here others name ≡ address_beside here entries name) → (o : Option Link) → peer_address here others o ≡ peer_address here entries o
peer_among here others entries same None = refl
peer_among here others entries same (Some link) = same link.peer

module _ (host : Host) (words : SyncData) (others entries : List Entry) (same : (name : List ℕ) → address_beside host.name others name ≡ address_beside host.name entries name)
    (old new : List KeeperState) (before after : Dialled) where
  among : (reply : SyncReply) → Synchronised host words others old new before after reply → Synchronised host words entries old new before after reply
  among reply s =
      let name : s.start.name ≡ host.name = cc (s.host_is.names) in
      let peer : peer_address s.start.name others (link_of s.start.admin.links words.link) ≡ peer_address s.start.name entries (link_of s.start.admin.links words.link) =
      subst (λ n. peer_address n others (link_of s.start.admin.links words.link) ≡ peer_address n entries (link_of s.start.admin.links words.link)) (sym name) (peer_among host.name others entries same (link_of s.start.admin.links words.link)) in
      record {
        start = s.start;
        end = s.end;
        host_is = s.host_is;
        opened = s.opened;
        closed = s.closed;
        sound = s.sound;
        syncs = subst (λ address. SyncsOver words address s.start s.end before after reply) peer s.syncs;
      }

  pub synced_among : (written behind : Option (List ℕ)) (status : Status) → HasSynced host words others old new before after written behind status → HasSynced host words entries old new before after written behind status
  synced_among written behind status s = record { reply = s.reply; synced = among s.reply s.synced; ends = s.ends; wrote = s.wrote }

  pub cut_among : IsCutSync host words others old new before after → IsCutSync host words entries old new before after
  cut_among cut = elim cut [
    | inl none ↦ inl none
    | inr synced ↦ inr (synced.0, among synced.0 synced.1)
  ]

-- ---- nothing was done

module _ (words : SyncData) (old new : List KeeperState) (d : Dialled) (kept : AreKept old new) where
  -- whatever instance was meant
  pub not_begun : (o : Option Host) (net : Description) → IfSome o (λ host. IsCutSync host words net.instances old new d d)
  not_begun None net = tt
  not_begun (Some host) net = inl (kept, refl)

  pub not_described : (read : Reading Description) → IfOk read (λ net. IfSome (host_named words.name net) (λ host. IsCutSync host words net.instances old new d d))
  not_described (Ok net) = not_begun (host_named words.name net) net
  not_described (Err fault) = tt

  pub not_read : (o : Option (List ℕ))
      → IfSome o (λ source. IfOk (described source) (λ net. IfSome (host_named words.name net) (λ host. IsCutSync host words net.instances old new d d)))
  not_read None = tt
  not_read (Some source) = not_described (described source)

-- where an instance did not open there is no line
pub no_line : (fault : NetFault) (status : Status) → status ≡ status_after fault → HasSyncLine status → ⊥
no_line NetFault.KeeperFault status is has = subst HasSyncLine is has
no_line NetFault.BadRow status is has = subst HasSyncLine is has
no_line NetFault.NoMemory status is has = subst HasSyncLine is has

-- nor where a source was not read to its end
pub no_line_read : (status : Status) → IsReadEnd status → HasSyncLine status → ⊥
no_line_read Status.ReadFault end has = has
no_line_read Status.TooMuch end has = has
no_line_read Status.OutOfMemory end has = has
no_line_read Status.Done end has = end
no_line_read Status.Stopped end has = end
no_line_read Status.Usage end has = end
no_line_read Status.WriteFault end has = end
no_line_read Status.BadDescription end has = end
no_line_read Status.NoSuchInstance end has = end
no_line_read Status.DoorFault end has = end
no_line_read Status.KeeperFault end has = end
no_line_read Status.BadRow end has = end

-- ---- of the words that were read

-- what holds of what these bytes describe
pub synced_here : (o : Option (List ℕ)) (bytes here : List ℕ) (asked given : SyncData) (P : SyncData → Description → Type 0)
    → IfSome o (λ left. bytes ≡ left) → here ≡ bytes → given ≡ asked → IfOk (described here) (P given) → IfSome o (λ left. IfOk (described left) (P asked))
synced_here None bytes here asked given P is same words holds = tt
synced_here (Some left) bytes here asked given P is same words holds =
    subst (λ d. IfOk (described left) (P d)) words (subst (λ b. IfOk (described b) (P given)) (same ∙ is) holds)

-- the words of a command are those that it was read from
pub sync_read : (o : Option CommandData) (asked : SyncData) (command : Command) (words : SyncWords) → o ≡ Some (Sync asked) → o ≡ Some (command_data command)
    → command ≡ Command.Sync words → sync_data words ≡ asked
sync_read o asked command words is read kind =
    let told : Some (Sync asked) ≡ Some (command_data command) = sym is ∙ read in
    let known : command_data command ≡ Sync (sync_data words) = ap command_data kind in
    cc

-- they are not those of a check
pub syncs_unchecked : (o : Option CommandData) (command : Command) (words : SyncWords) → o ≡ Some (command_data command) → command ≡ Command.Sync words → o ≡ Some Check → ⊥
syncs_unchecked o command words read kind check =
    let told : Some Check ≡ Some (command_data command) = sym check ∙ read in
    let known : command_data command ≡ Sync (sync_data words) = ap command_data kind in
    let no_ : Check ≡ Sync (sync_data words) = cc in
    cc
