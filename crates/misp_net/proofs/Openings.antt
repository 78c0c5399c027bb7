-- Keepers while instances are opened over them.
use Rattle.std.proofs.Common.{◌≡◌, ℕ, zero, suc, ◌+◌, ◌≤◌, List, [], ◌∷◌, ◌++◌, true, false, not, ◌&&◌, ◌||◌, map, take, drop, refl, sym, ◌∙◌, ap, subst, inl, inr, arith, append_assoc, Option, Some, None, Result, Ok, Err, IfErr, IfSome, IsOk, is_ok, option_map, slice_index_or, take-append-drop, take-take}
use Rattle.std.specs.Prelude.{IsErrAnd, ◌⊎◌}
use Rattle.std.specs.List.{AllZip, drop-map, take-map}
use Rattle.std.proofs.lemmas.List.{drop-take, map_push}
use Rattle.misp_outside.specs.Reporting.{StaysHeld, WhereReported}
use Rattle.misp_outside.proofs.Reporting.{reported_at, reported_before, reported_so}
use Rattle.misp_admins.specs.Made.{with_items}
use Rattle.misp_admin_rows.specs.Rows.{items_in, other_rows}
use Rattle.misp_effects.specs.KeeperStates.{AllReport, OneFailed}
use Rattle.misp_effects.proofs.KeeperStates.{AreBack, all_kept, first_kept, next_kept}
use Rattle.misp_effects.proofs.Told.{told_append}
use Rattle.misp_history.proofs.Prelude.{all_both, and_from}
use Rattle.misp_store.specs.Loading.{NamesFault}
use Rattle.misp_store.specs.Raw.{rows_in}
use Rattle.misp_store.specs.Renewing.{after_groups, after_rows, opened, renewed}
use Rattle.misp_store.specs.declared.fault.LoadFault.{LoadFault}
use Rattle.misp_store.specs.Sharing.{WereSound, all_groups_in, is_sound, may_be_unsound}
use Rattle.misp_core.specs.Prelude.{Group, Held, KeeperState, Row, Standing, Tell, groups_in, list_all, option_map_or}
use Rattle.misp_net.specs.Asking.{names_of}
use Rattle.misp_net.specs.History.{empty_tables}
use Rattle.misp_net.specs.Opening.{AreKeptOrOpened, AreOpened, IsCutShort, IsStoppedBy, opened_hosts, opened_state, opened_states}
use Rattle.misp_net.specs.Passing.{Trail}
use Rattle.misp_net.specs.Prelude.{AreKept, Host, Line, Tables, host_at, host_of, hosts_of, nothing_held, state_of, states_of}
use Rattle.misp_net.specs.Running.{fault_of}
use Rattle.misp_net.specs.declared.places.NetFault.{NetFault}

-- ---- what the keepers held

none_sound : WereSound [] []
none_sound after tell = ([], refl, refl)

-- the first keepers and the next
take_next : (count : ℕ) (old : List KeeperState) → take count old ++ take 1 (drop count old) ≡ take (count + 1) old
take_next count old =
    ap (λ front. front ++ take 1 (drop count old)) (sym (take-take count (count + 1) old (omega arith)))
    ∙ ap (λ behind. take count (take (count + 1) old) ++ behind) (sym (drop-take count 1 old))
    ∙ take-append-drop count (take (count + 1) old)

-- one more of which every row decodes
pub sound_next : (count : ℕ) (old front rest : List KeeperState) (next : KeeperState) → rest ≡ drop count old → WereSound (take count old) front → WereSound (take 1 rest) (next ∷ [])
    → WereSound (take (count + 1) old) (front ++ next ∷ [])
sound_next count old front rest next is first then =
    let Sound : Tables → Tables → Type 0 = λ before after. list_all is_sound before ≡ true in
    subst (λ before. WereSound before (front ++ next ∷ [])) (take_next count old)
    (told_append (take count old) front (take 1 (drop count old)) (next ∷ []) Sound Sound Sound (λ before after later last sound more. all_both is_sound before later sound more)
    first (subst (λ r. WereSound (take 1 r) (next ∷ [])) is then))

-- where all that is held decodes, it is sound
rows_sound : (held : Held) (rows : Result (List Row) (List ℕ)) → IsOk (after_rows held rows) → is_ok rows ≡ true
rows_sound held (Ok rows) ok = refl
rows_sound held (Err name) ok = ok

groups_sound : (held : Held) (groups : Result (List Group) (List ℕ)) → IsOk (after_groups held groups) → (is_ok groups && is_ok (rows_in held.rows)) ≡ true
groups_sound held (Ok groups) ok = rows_sound held (rows_in held.rows) ok
groups_sound held (Err name) ok = ok

opened_sound : (held : Held) → IsOk (opened held) → is_sound held ≡ true
unfolding opened
opened_sound held ok = groups_sound held (groups_in held.admin) ok

first_tells : (s : KeeperState) (old : List KeeperState) (held : Held) (tables : Tables) → Tell (s ∷ old) (held ∷ tables) → s.held ≡ Some held
first_tells s old held tables tell = cc

others_tell : (s : KeeperState) (old : List KeeperState) (held : Held) (tables : Tables) → Tell (s ∷ old) (held ∷ tables) → Tell old tables
others_tell s old held tables tell = cc

one_tells : (s : KeeperState) (held : Held) → s.held ≡ Some held → Tell (s ∷ []) (held ∷ [])
one_tells s held is = ap (λ h. h ∷ []) is

pub sound_one : (s i : KeeperState) → WhereReported s.held i.held (λ held now. IsOk (opened held)) → WereSound (s ∷ []) (i ∷ [])
sound_one s i ok [] tell = absurd cc
sound_one s i ok (now ∷ after) tell =
    let was = reported_before s.held i.held _ now ok (first_tells i [] now after tell) in
    (was.0 ∷ [], one_tells s was.0 was.1, and_from _ _ (opened_sound was.0 was.2) refl)

-- and where a row does not, it is not
rows_unsound : (held : Held) (rows : Result (List Row) (List ℕ)) (name : List ℕ) → after_rows held rows ≡ Err name → is_ok rows ≡ false
rows_unsound held (Ok rows) name bad = absurd cc
rows_unsound held (Err other) name bad = refl

groups_unsound : (held : Held) (groups : Result (List Group) (List ℕ)) (name : List ℕ) → after_groups held groups ≡ Err name → (is_ok groups && is_ok (rows_in held.rows)) ≡ false
groups_unsound held (Ok groups) name bad = rows_unsound held (rows_in held.rows) name bad
groups_unsound held (Err other) name bad = refl

pub unsound_one : (s : KeeperState) (name : List ℕ) → IfSome s.held (λ held. opened held ≡ Err name) → may_be_unsound (s ∷ []) ≡ true
unfolding opened
unsound_one s name bad = by_held s.held bad
  where
    by_held : (o : Option Held) → IfSome o (λ held. after_groups held (groups_in held.admin) ≡ Err name) → (option_map_or (λ h. not (is_sound h)) o true || false) ≡ true
    by_held None bad = refl
    by_held (Some held) bad = rw (groups_unsound held (groups_in held.admin) name bad) refl

-- an instance that did not open for a bad row was over such a keeper
pub bad_row_told : (fault : LoadFault) (result : NetFault) (s : KeeperState) → result ≡ fault_of fault → result ≡ NetFault.BadRow → IfSome s.held (λ held. NamesFault (opened held) fault) → may_be_unsound (s ∷ []) ≡ true
bad_row_told (LoadFault.BadRow name) result s is same bad = unsound_one s name bad
bad_row_told LoadFault.KeeperFault result s is same bad = absurd (let no_ : NetFault.KeeperFault ≡ NetFault.BadRow = sym is ∙ same in cc)
bad_row_told LoadFault.NoMemory result s is same bad = absurd (let no_ : NetFault.NoMemory ≡ NetFault.BadRow = sym is ∙ same in cc)

-- who holds nothing holds no row that is none
pub nothing_is_sound : is_sound nothing_held ≡ true
unfolding nothing_held groups_in all_groups_in other_rows rows_in
nothing_is_sound = refl

-- ---- what they hold once instances are open

-- what is renewed is what is reported of what was held, renewed
stays_renewed : (old new : Option Held) → WhereReported old new (λ held now. now ≡ renewed held) → StaysHeld (option_map renewed old) new
stays_renewed None None is = tt
stays_renewed None (Some now) is = absurd is
stays_renewed (Some held) None is = tt
stays_renewed (Some held) (Some now) is = is

-- so an instance that is open is over a keeper as it opens
pub opened_one : (s i : KeeperState) → WhereReported s.held i.held (λ held now. now ≡ renewed held) → s.faults ≤ i.faults → AreKept (opened_states (s ∷ [])) (i ∷ [])
opened_one s i is later = (record { held = stays_renewed s.held i.held is; later = later }, tt)

-- one more is opened
pub next_opened : (count : ℕ) (old front rest : List KeeperState) (next : KeeperState) → rest ≡ drop count old
    → AreKept (opened_states (take count old)) front → AreKept (opened_states (take 1 rest)) (next ∷ []) → AreKept (opened_states (take (count + 1) old)) (front ++ next ∷ [])
next_opened count old front rest next is first then =
    subst (λ before. AreKept before (front ++ next ∷ [])) (take-map opened_state (count + 1) old)
    (next_kept count (opened_states old) front (opened_states rest) next (ap opened_states is ∙ sym (drop-map opened_state count old))
    (subst (λ before. AreKept before front) (sym (take-map opened_state count old)) first)
    (subst (λ before. AreKept before (next ∷ [])) (sym (take-map opened_state 1 rest)) then))

pub kept_or_opened : (old new : List KeeperState) → AreKept old new → AreKeptOrOpened old new
kept_or_opened [] [] kept = tt
kept_or_opened [] (t ∷ new) kept = absurd kept
kept_or_opened (s ∷ old) [] kept = absurd kept
kept_or_opened (s ∷ old) (t ∷ new) kept = (record { held = reported_so s.held t.held _ _ (λ held now same. inl same) kept.0.held; later = kept.0.later }, kept_or_opened old new kept.1)

was_opened : (old new : Option Held) → StaysHeld (option_map renewed old) new → WhereReported old new (λ held now. (now ≡ held) ⊎ (now ≡ renewed held))
was_opened None None same = tt
was_opened None (Some now) same = absurd same
was_opened (Some held) None same = tt
was_opened (Some held) (Some now) same = inr same

pub opened_of_them : (old new : List KeeperState) → AreKept (opened_states old) new → AreKeptOrOpened old new
opened_of_them [] [] kept = tt
opened_of_them [] (t ∷ new) kept = absurd kept
opened_of_them (s ∷ old) [] kept = absurd kept
opened_of_them (s ∷ old) (t ∷ new) kept = (record { held = was_opened s.held t.held kept.0.held; later = kept.0.later }, opened_of_them old new kept.1)

both_parts : (old new more now : List KeeperState) → AreKeptOrOpened old new → AreKeptOrOpened more now → AreKeptOrOpened (old ++ more) (new ++ now)
both_parts [] [] more now first rest = rest
both_parts [] (t ∷ new) more now first rest = absurd first
both_parts (s ∷ old) [] more now first rest = absurd first
both_parts (s ∷ old) (t ∷ new) more now first rest = (first.0, both_parts old new more now first.1 rest)

-- of the first of them
pub take_opened : (count : ℕ) (old new : List KeeperState) → AreKeptOrOpened old new → AreKeptOrOpened (take count old) (take count new)
take_opened zero old new all = tt
take_opened (suc count) [] [] all = tt
take_opened (suc count) [] (t ∷ new) all = absurd all
take_opened (suc count) (s ∷ old) [] all = absurd all
take_opened (suc count) (s ∷ old) (t ∷ new) all = (all.0, take_opened count old new all.1)

-- of the first of them, where the others are as they were
pub first_opened : (count : ℕ) (old new : List KeeperState) → AreKeptOrOpened (take count old) (take count new) → drop count new ≡ drop count old → AreKeptOrOpened old new
first_opened count old new first same =
    subst (AreKeptOrOpened old) (take-append-drop count new)
    (subst (λ before. AreKeptOrOpened before (take count new ++ drop count new)) (take-append-drop count old)
    (both_parts (take count old) (take count new) (drop count old) (drop count new) first
    (subst (AreKeptOrOpened (drop count old)) (sym same) (kept_or_opened _ _ (all_kept (drop count old))))))

-- those in front were opened, the next was not, and all are back
pub back_opened : {old rest front behind new : List KeeperState} {done count : ℕ} → AreBack old rest front behind new done count
    → AreKept (opened_states (take done old)) front → AreKept (take 1 rest) (take 1 behind) → drop 1 behind ≡ drop 1 rest → AreKeptOrOpened old new
back_opened {old} {rest} {front} {behind} {new} {done} back first next same =
    subst (AreKeptOrOpened old) (sym back.is)
    (subst (λ before. AreKeptOrOpened before (front ++ behind)) (take-append-drop done old)
    (both_parts (take done old) front (drop done old) behind (opened_of_them _ _ first)
    (kept_or_opened _ _ (subst (λ r. AreKept r behind) back.left (first_kept 1 rest behind next same)))))

-- ---- which instances are open

-- it has the described name, and what its keeper reports of what was made there
pub record IsOpenedAs (d : Host) (i : Standing) : Type 0 where
  pub name : i.name ≡ d.name
  pub admin : IfSome i.held (λ held. i.admin ≡ with_items d.admin (items_in held.admin))

-- the same of each
abbrev pub AreOpenedAs : List Host → List Standing → Type 0
AreOpenedAs described instances = AllZip IsOpenedAs described instances

-- who it is then
host_opened : (d : Host) (i : Standing) → IsOpenedAs d i → (held : Held) → i.held ≡ Some held → host_of i ≡ record d { admin = with_items d.admin (items_in held.admin) }
host_opened d i is held same =
    let made : i.admin ≡ with_items d.admin (items_in held.admin) = subst (λ o. IfSome o (λ h. i.admin ≡ with_items d.admin (items_in h.admin))) same is.admin in
    λ k. record { name = is.name k; admin = made k }

names_opened : (described : List Host) (instances : List Standing) → AreOpenedAs described instances → names_of (hosts_of instances) ≡ names_of described
names_opened [] [] are = refl
names_opened [] (i ∷ instances) are = absurd are
names_opened (d ∷ described) [] are = absurd are
names_opened (d ∷ described) (i ∷ instances) are = λ k. are.0.name k ∷ names_opened described instances are.1 k

made_opened : (described : List Host) (instances : List Standing) (tables : Tables) → AreOpenedAs described instances → Tell (states_of instances) tables → hosts_of instances ≡ opened_hosts described tables
made_opened [] [] tables are tell = refl
made_opened [] (i ∷ instances) tables are tell = absurd are
made_opened (d ∷ described) [] tables are tell = absurd are
made_opened (d ∷ described) (i ∷ instances) [] are tell = absurd cc
made_opened (d ∷ described) (i ∷ instances) (held ∷ tables) are tell =
    let own = host_opened d i are.0 held (first_tells (state_of i) (states_of instances) held tables tell) in
    let others = made_opened described instances tables are.1 (others_tell (state_of i) (states_of instances) held tables tell) in
    λ k. own k ∷ others k

pub are_opened : (described : List Host) (instances : List Standing) → AreOpenedAs described instances → AreOpened described (states_of instances) (states_of instances) (hosts_of instances)
are_opened described instances are = record {
  names = names_opened described instances are;
  made = λ tables tell report. made_opened described instances tables are tell;
}

-- one that is open alone
pub opened_as : (d : Host) (i : Standing) → AreOpened (d ∷ []) (state_of i ∷ []) (state_of i ∷ []) (host_of i ∷ []) → IsOpenedAs d i
opened_as d i is = record {
  name = ap (λ (names : List (List ℕ)). slice_index_or names 0 []) is.names;
  admin = by_held i.held refl;
}
  where
    by_held : (o : Option Held) → i.held ≡ o → IfSome o (λ held. i.admin ≡ with_items d.admin (items_in held.admin))
    by_held None same = tt
    by_held (Some held) same =
        let tell : Tell (state_of i ∷ []) (held ∷ []) = one_tells (state_of i) held same in
        ap (λ (hosts : List Host). (host_at 0 hosts).admin) (is.made (held ∷ []) tell (held ∷ [], tell))

-- one more
pub opened_push : (described : List Host) (instances : List Standing) (d : Host) (i : Standing) → AreOpenedAs described instances → IsOpenedAs d i → AreOpenedAs (described ++ d ∷ []) (instances ++ i ∷ [])
opened_push [] [] d i are is = (is, tt)
opened_push [] (j ∷ instances) d i are is = absurd are
opened_push (e ∷ described) [] d i are is = absurd are
opened_push (e ∷ described) (j ∷ instances) d i are is = (are.0, opened_push described instances d i are.1 is)

all_tell : (s : KeeperState) (old : List KeeperState) (held : Held) (tables : Tables) → s.held ≡ Some held → Tell old tables → Tell (s ∷ old) (held ∷ tables)
all_tell s old held tables first others = cc

-- who still report report what they did
pub kept_tells : (old new : List KeeperState) (tables now : Tables) → AreKept old new → Tell old tables → Tell new now → Tell new tables
kept_tells [] [] tables now kept told tell = told
kept_tells [] (t ∷ new) tables now kept told tell = absurd kept
kept_tells (s ∷ old) [] tables now kept told tell = absurd kept
kept_tells (s ∷ old) (t ∷ new) [] now kept told tell = absurd cc
kept_tells (s ∷ old) (t ∷ new) (a ∷ tables) [] kept told tell = absurd cc
kept_tells (s ∷ old) (t ∷ new) (a ∷ tables) (b ∷ now) kept told tell =
    let held : t.held ≡ Some b = first_tells t new b now tell in
    let same : b ≡ a = reported_at s.held t.held (λ was is. is ≡ was) a b (first_tells s old a tables told) held kept.0.held in
    all_tell t new a tables (held ∙ ap Some same)
    (kept_tells old new tables now kept.1 (others_tell s old a tables told) (others_tell t new b now tell))

-- where nothing was held, nothing was made
nothing_made : (h : Host) → record h { admin = with_items h.admin (items_in nothing_held.admin) } ≡ h
unfolding with_items items_in nothing_held
nothing_made h = refl

empty_opened : (described : List Host) → opened_hosts described (empty_tables described) ≡ described
empty_opened [] = refl
empty_opened (h ∷ described) = λ k. nothing_made h k ∷ empty_opened described k

-- so they are those that are described
pub described_opened : (described : List Host) (old new : List KeeperState) (hosts : List Host) → AreOpened described old new hosts → Tell old (empty_tables described) → AllReport new → hosts ≡ described
described_opened described old new hosts is empty report = is.made (empty_tables described) empty report ∙ empty_opened described

-- ---- a keeper is put back

state_from : (s : KeeperState) (i : Standing) → s.held ≡ i.held → s.faults ≡ i.faults → s ≡ state_of i
state_from s i held faults = λ k. record { held = held k; faults = faults k }

-- that of the last instance is before the others
pub put_back : {K : Type 0} (state : K → KeeperState) (k : K) (rest all : List Standing) (i : Standing) (keepers now : List K)
    → all ≡ rest ++ i ∷ [] → now ≡ k ∷ keepers → (state k).held ≡ i.held → (state k).faults ≡ i.faults
    → states_of rest ++ map state now ≡ states_of all ++ map state keepers
put_back state k rest all i keepers now split first held faults =
    ap (λ ks. states_of rest ++ map state ks) first
    ∙ ap (λ s. states_of rest ++ s ∷ map state keepers) (state_from (state k) i held faults)
    ∙ sym (append_assoc (states_of rest) (state_of i ∷ []) (map state keepers))
    ∙ ap (λ front. front ++ map state keepers) (sym (map_push state_of rest i) ∙ ap states_of (sym split))

-- what holds of each fault holds after an error
pub if_err : {A E : Type 0} {P : E → Type 0} (result : Result A E) → ((fault : E) → P fault) → IfErr result P
if_err (Ok x) holds = tt
if_err (Err fault) holds = holds fault

-- ---- why a script was not run to its end

module _ (hosts : List Host) (lines : List Line) (old new : List KeeperState) (before after : Option Trail) (cut : IsCutShort hosts lines old new before after) where
  -- for want of memory
  pub memory_stopped : {A : Type 0} (result : Result A NetFault) → IsErrAnd result (λ fault. fault ≡ NetFault.NoMemory) → IfErr result (IsStoppedBy hosts lines old new before after)
  memory_stopped (Ok x) is = tt
  memory_stopped (Err fault) is = subst (IsStoppedBy hosts lines old new before after) (sym is) cut

  by_fault : {B : Type 0} (opened : Result B NetFault) (fault : NetFault) → opened ≡ Err fault → (opened ≡ Err NetFault.KeeperFault → OneFailed old new)
      → (opened ≡ Err NetFault.BadRow → may_be_unsound new ≡ true) → IsStoppedBy hosts lines old new before after fault
  by_fault opened NetFault.KeeperFault is keeper bad = keeper is
  by_fault opened NetFault.BadRow is keeper bad = bad is
  by_fault opened NetFault.NoMemory is keeper bad = cut

  -- or by the fault for which the instances did not open
  pub opening_stopped : {A B : Type 0} (result : Result A NetFault) (opened : Result B NetFault) (fault : NetFault) → opened ≡ Err fault → IsErrAnd result (λ f. f ≡ fault)
      → (opened ≡ Err NetFault.KeeperFault → OneFailed old new) → (opened ≡ Err NetFault.BadRow → may_be_unsound new ≡ true)
      → IfErr result (IsStoppedBy hosts lines old new before after)
  opening_stopped (Ok x) opened fault is same keeper bad = tt
  opening_stopped (Err f) opened fault is same keeper bad =
      subst (IsStoppedBy hosts lines old new before after) (sym same) (by_fault opened fault is keeper bad)
