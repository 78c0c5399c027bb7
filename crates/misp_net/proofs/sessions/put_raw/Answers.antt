use Rattle.std.proofs.Common.{◌≡◌, ◌++◌, ◌∙◌, Some, refl, inl, inr}
use Rattle.std.specs.Prelude.{⊤}
use Rattle.misp_outside.specs.Sinks.{sure_bytes}
use Rattle.misp_outside.specs.Sources.{sure_left}
use Rattle.misp_script.specs.Step.{raw_data}
use Rattle.misp_net.proofs.Doing.{always_err, on_ok}
use Rattle.misp_net.proofs.LineBytes.{put_behind, session_went}
use Rattle.misp_net.proofs.sessions.put_raw.Goals as goal

pub returns-in_err-bytes-clause-cut : goal.returns-in_err-bytes-clause-cut
returns-in_err-bytes-clause-cut g c = always_err c.from_residual.result (inl refl)

pub returns-clause-text : goal.returns-clause-text
returns-clause-text g c =
    on_ok c.put_session.result
    (λ text.
    session_went c.args.now c.args.word (raw_data c.args.line.now) c.args.instance.now c.session-end.new.instance c.session-end.result c.get.result _ _ (sure_bytes c.session-end.new.sink) (Some (sure_left c.session-end.new.source)) (Some c.session-end.new.clock.word)
    c.get.ensures.value (c.new-source.ensures ∙ c.in_ok-bytes.ensures) c.new-sink.ensures c.session-end.ensures.session c.session-end.ensures.read c.session-end.ensures.write
    (λ told. c.put_session.new.lines.items ≡ c.args.lines.now.items ++ told)
    (put_behind c.args.lines.now.items _ _ _ _ text c.bytes.ensures))
    c.put_session.ensures.text

-- it is not written
pub returns-clause-cut : goal.returns-clause-cut
returns-clause-cut g c =
    always_err c.put_session.result
    (inr
    (session_went c.args.now c.args.word (raw_data c.args.line.now) c.args.instance.now c.session-end.new.instance c.session-end.result c.get.result _ _ (sure_bytes c.session-end.new.sink) (Some (sure_left c.session-end.new.source)) (Some c.session-end.new.clock.word)
    c.get.ensures.value (c.new-source.ensures ∙ c.in_ok-bytes.ensures) c.new-sink.ensures c.session-end.ensures.session c.session-end.ensures.read c.session-end.ensures.write
    (λ told. ⊤) tt))
