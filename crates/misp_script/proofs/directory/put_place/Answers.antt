use Rattle.std.proofs.Common.{rules, ◌≡◌, ◌∙◌, ap, sym, true, false, is_some}
use Rattle.misp_script.specs.Directory.{place_in}
use Rattle.misp_script.proofs.Places.{places_old, places_new, place_put}
use Rattle.misp_script.proofs.directory.put_place.Goals as goal

pub returns-then-contains_key : goal.returns-then-contains_key
returns-then-contains_key c = λ rosters count has.
    let name : c.as_bytes-name.result.now ≡ c.args.next.now.name = c.as_bytes-name.ensures.value ∙ c.text.ensures.spelling ∙ ap (λ n. n.name) c.next.view_is in
    let is : is_some (place_in c.args.places.now c.as_bytes-name.result.now) ≡ true = sym c.if-contains_key.ensures in
    places_old rosters c.args.next.now c.args.places.now has (rw name at is)

pub returns : goal.returns
returns c = λ rosters count has.
    let name : c.as_bytes-name.result.now ≡ c.args.next.now.name = c.as_bytes-name.ensures.value ∙ c.text.ensures.spelling ∙ ap (λ n. n.name) c.next.view_is in
    let is : is_some (place_in c.args.places.now c.as_bytes-name.result.now) ≡ false = sym c.if-contains_key.ensures in
    let copy : c.in_ok-to_vec.field-0.items ≡ c.as_bytes-name.result.now = search rules in
    let puts = place_put c.in_ok-to_vec.field-0.items c.args.places.now c.insert.new.self c.args.at c.in_ok-insert.ensures.updates in
    places_new rosters c.args.next.now c.args.places.now has c.insert.new.self (rw name at is) (rw (copy, name, ← count) at puts)
