use Rattle.std.proofs.Common.{map, ap, subst, sym, ◌∙◌, IsPermutation}
use Rattle.misp_model.proofs.Prelude.{any_map, is_statement}
use Rattle.misp_package.specs.Passing.{route_of}
use Rattle.misp_package.proofs.AskedOnce.{elements_are}
use Rattle.misp_package.proofs.passing.passage_of.Goals as goal

pub returns : goal.returns
returns c =
    let groups = c.args.via.now.groups.now in
    let route = route_of c.args.via.now in
    record {
      owner = c.sent_owner-sent.ensures;
      outs = c.in_ok-out.ensures;
      eligible = c.in_ok-eligible.ensures;
      elements = λ told.
          elements_are c.sent_owner-sent.result c.in_ok-out.out groups route c.in_ok-elements.elements (map (λ r. r.now) c.as_slice.result.now) (map (λ r. r.now) c.args.granted.now)
          c.are_told.result (c.are_told.ensures ∙ sym (any_map (λ r. r.now) (λ r. is_statement r.key) c.args.granted.now) ∙ told) (ap (map (λ r. r.now)) c.as_slice.ensures.value ∙ c.in_ok-eligible.ensures) c.in_ok-elements.ensures;
      by_key = subst (λ l. IsPermutation l c.in_ok-by_key.by_key) (ap (map (λ r. r.now)) c.as_slice-2.ensures.value ∙ c.in_ok-statements.ensures) c.in_ok-by_key.ensures;
    }
