use Rattle.std.proofs.Common.{◌≡◌, false, ◌≤◌, ◌++◌, take, length, arith, sym, ◌∙◌, ap, subst}
use Rattle.misp_api.specs.Prelude.{IsRefused, Reply}
use Rattle.misp_core.specs.Text.{has_octets, reply_text}
use Rattle.misp_api.specs.declared.TheConstants.{CHANGE_TEXT}
use Rattle.misp_api.proofs.Told.{text_before, start_within}
use Rattle.misp_api.proofs.telling.told_and_put.Goals as goal

pub settled-requires-clause-answer : goal.settled-requires-clause-answer
settled-requires-clause-answer g c = λ refused. subst IsRefused c.in_ok-reply.ensures.reply refused

pub settled-requires-clause-start : goal.settled-requires-clause-start
settled-requires-clause-start g c =
    let long : length c.args.text.now.items ≡ c.len-start.result = omega (arith, c.args.text.now.ok.0, c.len-start.ensures) in
    subst (λ n. c.len-start.result ≤ n) (sym c.write_answer.new.text.ok.0)
    (start_within c.args.text.now.items _ _ _ long c.in_ok-reply.ensures.text)

pub settled-requires-clause-text : goal.settled-requires-clause-text
settled-requires-clause-text g c =
    let long : length c.args.text.now.items ≡ c.len-start.result = omega (arith, c.args.text.now.ok.0, c.len-start.ensures) in
    c.in_ok-reply.ensures.text
    ∙ ap (λ front. front ++ reply_text (Reply.Ok c.args.answer)) (sym (text_before c.args.text.now.items _ _ _ long c.in_ok-reply.ensures.text))
    ∙ ap (λ reply. take c.len-start.result c.write_answer.new.text.items ++ reply_text reply) (sym c.in_ok-reply.ensures.reply)

pub returns-clause-text : goal.returns-clause-text
returns-clause-text g c =
    let long : length c.args.text.now.items ≡ c.len-start.result = omega (arith, c.args.text.now.ok.0, c.len-start.ensures) in
    c.settled.ensures.text
    ∙ ap (λ front. front ++ reply_text c.settled.result) (text_before c.args.text.now.items _ _ _ long c.in_ok-reply.ensures.text)

pub returns-clause-done : goal.returns-clause-done
returns-clause-done g c = λ p e same some plans. c.settled.ensures.done p e (c.in_ok-reply.ensures.reply ∙ ap Reply.Ok (sym same)) some plans

pub returns-clause-later : goal.returns-clause-later
returns-clause-later g c = c.settled.ensures.cause.later

pub returns-clause-rose : goal.returns-clause-rose
returns-clause-rose g c = c.settled.ensures.cause.rose

pub settled-requires-clause-short : goal.settled-requires-clause-short
settled-requires-clause-short g c = subst (λ reply. length (reply_text reply) ≤ CHANGE_TEXT) (sym c.in_ok-reply.ensures.reply) c.in_ok-reply.ensures.short

pub returns-clause-kept : goal.returns-clause-kept
returns-clause-kept g c = c.settled.ensures.long

pub settled-requires-clause-no_octets : goal.settled-requires-clause-no_octets
settled-requires-clause-no_octets g c = subst (λ reply. has_octets reply ≡ false) (sym c.in_ok-reply.ensures.reply) c.in_ok-reply.ensures.no_octets

pub returns-clause-octets : goal.returns-clause-octets
returns-clause-octets g c = c.settled.ensures.octets
