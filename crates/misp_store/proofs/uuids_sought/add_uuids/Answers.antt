use Rattle.std.proofs.Common.{◌≡◌, ◌∙◌, ◌++◌, IfSome, map, subst}
use Rattle.misp_outside.specs.Held.{rows_named}
use Rattle.misp_elem.specs.Parents.{event_key}
use Rattle.misp_elem.specs.Spelling.{name}
use Rattle.misp_store.specs.Seeking.{elem_of, rows_at, rows_ending, rows_of_keys}
use Rattle.misp_store.specs.Seen.{attributes_of, kind_front, place_front}
use Rattle.misp_store.proofs.FirstRows.{first_still}
use Rattle.misp_outside.proofs.Reporting.{stays_then}
use Rattle.misp_store.proofs.LooksSought.{parts_sought}
use Rattle.misp_store.proofs.Sought.{joined}
use Rattle.misp_store.proofs.uuids_sought.add_uuids.Goals as goal

pub returns-clause-found : goal.returns-clause-found
returns-clause-found g c =
    let e = c.args.event.now in
    let o = c.args.owner.now in
    let ns = c.args.numbers.now in
    let objects = subst (λ front. IfSome (g.K.Keeper.state c.add_front.new.keeper).held (λ held. c.add_front.new.found.items ≡ c.add_event.new.found.items ++ rows_named e front held.rows)) (c.as_slice.ensures.value ∙ c.in_ok-objects.ensures) c.in_ok-add_front.ensures.found in
    let attributes = subst (λ keys. IfSome (g.K.Keeper.state c.add_keys.new.keeper).held (λ held. c.add_keys.new.found.items ≡ c.add_front.new.found.items ++ rows_of_keys e o keys held.rows)) (c.as_slice-2.ensures.value ∙ c.in_ok-attributes.ensures) c.in_ok-add_keys.ensures.found in
    let within = subst (λ front. IfSome (g.K.Keeper.state c.add_ending.new.keeper).held (λ held. c.add_ending.new.found.items ≡ c.add_keys.new.found.items ++ rows_ending e front ns held.rows)) (c.as_slice-3.ensures.value ∙ c.in_ok-within.ensures) c.in_ok-add_ending.ensures.found in
    let references = subst (λ front. IfSome (g.K.Keeper.state c.add_ending-2.new.keeper).held (λ held. c.add_ending-2.new.found.items ≡ c.add_ending.new.found.items ++ rows_ending e front ns held.rows)) (c.as_slice-4.ensures.value ∙ c.in_ok-references.ensures) c.in_ok-add_ending-2.ensures.found in
    let from_within = c.in_ok-add_ending-2.ensures.held in
    let from_attributes = stays_then _ _ _ c.in_ok-add_ending.ensures.held from_within in
    let from_objects = stays_then _ _ _ c.in_ok-add_keys.ensures.held from_attributes in
    let from_event = stays_then _ _ _ c.in_ok-add_front.ensures.held from_objects in
    let first = first_still e o _ _ c.args.first (stays_then _ _ _ c.in_ok-add_event.ensures.held from_event) c.requires.first in
    parts_sought e o c.args.first ns c.requires.fit c.requires.sorted _ c.args.found.now.items c.add_ending-2.new.found.items first
    (joined _ _ (rows_at e (name o (event_key e))) (λ raws. rows_named e (place_front o e 1) raws ++ (rows_of_keys e o (attributes_of e (map elem_of ns)) raws ++ (rows_ending e (place_front o e 3) ns raws ++ rows_ending e (kind_front o e 1) ns raws)))
    c.args.found.now.items c.add_event.new.found.items c.add_ending-2.new.found.items from_event c.in_ok-add_event.ensures.found
    (joined _ _ (rows_named e (place_front o e 1)) (λ raws. rows_of_keys e o (attributes_of e (map elem_of ns)) raws ++ (rows_ending e (place_front o e 3) ns raws ++ rows_ending e (kind_front o e 1) ns raws))
    c.add_event.new.found.items c.add_front.new.found.items c.add_ending-2.new.found.items from_objects objects
    (joined _ _ (rows_of_keys e o (attributes_of e (map elem_of ns))) (λ raws. rows_ending e (place_front o e 3) ns raws ++ rows_ending e (kind_front o e 1) ns raws)
    c.add_front.new.found.items c.add_keys.new.found.items c.add_ending-2.new.found.items from_attributes attributes
    (joined _ _ (rows_ending e (place_front o e 3) ns) (rows_ending e (kind_front o e 1) ns)
    c.add_keys.new.found.items c.add_ending.new.found.items c.add_ending-2.new.found.items from_within within references))))
