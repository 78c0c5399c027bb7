use Rattle.std.proofs.Common.{◌≡◌, ℕ, List, [], ◌∷◌, Some, Result, Ok, Err, IfOk, MatchResult, refl, subst, sym}
use Rattle.std.proofs.lemmas.Result.{err_from_is_err_and}
use Rattle.misp_outside.proofs.Reporting.{stays_same}
use Rattle.misp_http.specs.Reading.{IsRead}
use Rattle.misp_http.specs.declared.request.Read.{Read}
use Rattle.misp_core.specs.Standing.{host_of}
use Rattle.misp_api.specs.Exchange.{IsExchanged}
use Rattle.misp_api.specs.Sending.{read_form}
use Rattle.misp_api.proofs.Exchanges.{left_alone, left_replied}
use Rattle.misp_api.proofs.Outgoing.{where_full}
use Rattle.misp_dialogue.specs.Parties.{GrowsBy}
use Rattle.misp_sync.specs.Wire.{IsUnanswered}
use Rattle.misp_net.proofs.Growing.{asked_whole, none_asked, only_asked}
use Rattle.misp_net.proofs.over_carry.OverCarry.exchanged.Goals as goal

-- what was sent is read as what was to be sent
came : (sent text : List ℕ) (read : Read) → sent ≡ text → IsRead text (Ok read) (Some []) → IsRead sent (Ok read) (Some [])
came sent text read same is = subst (λ bytes. IsRead bytes (Ok read) (Some [])) (sym same) is

-- what holds of bytes holds of what is carried of them
carried : {V E : Type 0} (P : List ℕ → Type 0) (items : V → List ℕ) (r : Result V E) (bytes : List ℕ) → IfOk r (λ v. items v ≡ bytes) → P bytes → IfOk r (λ v. P (items v))
carried P items (Ok v) bytes same holds = subst P (sym same) holds
carried P items (Err fault) bytes same holds = tt

-- ---- what is replied

pub returns-in-Ok-clause-answered : goal.returns-in-Ok-clause-answered
returns-in-Ok-clause-answered g c = λ read is.
    let now = c.args.self.now in
    let sent = came c.in_ok-sent.sent.items c.args.bytes.now read c.in_ok-sent.ensures.bytes is in
    carried (IsExchanged now.now now.word read now.peer.now c.exchange-replied.new.instance) (λ v. v.items) c.pass-in-Ok.result c.in-Ok.reply.items
    (subst (λ bytes. IfOk c.pass-in-Ok.result (λ v. v.items ≡ bytes)) c.deref.ensures.value c.pass-in-Ok.ensures.bytes) (c.in-Ok.ensures.answered read (Some []) sent)

-- ---- what is left

pub returns-in_err-sent-clause-left : goal.returns-in_err-sent-clause-left
returns-in_err-sent-clause-left g c = λ read is.
    let now = c.args.self.now in
    where_full c.from_residual.result (left_alone now.now (read_form (host_of now.peer.now) now.word read) now.peer.now now.peer.now.held now.peer.now.held (stays_same now.peer.now.held now.peer.now.held refl))

pub returns-in-Err-clause-left : goal.returns-in-Err-clause-left
returns-in-Err-clause-left g c = λ read is.
    c.in-Err.ensures.left read (Some []) (came c.in_ok-sent.sent.items c.args.bytes.now read c.in_ok-sent.ensures.bytes is)

pub returns-in-Ok-clause-left : goal.returns-in-Ok-clause-left
returns-in-Ok-clause-left g c = λ read is.
    let now = c.args.self.now in
    let sent = came c.in_ok-sent.sent.items c.args.bytes.now read c.in_ok-sent.ensures.bytes is in
    let e = c.in-Ok.ensures.answered read (Some []) sent in
    where_full c.pass-in-Ok.result
    (left_replied now.now (read_form (host_of now.peer.now) now.word read) now.peer.now now.peer.now.held c.exchange-replied.new.instance.held e.reply e.answered.replied)

-- ---- what a synchronisation asks changes neither name nor administration

pub returns-in_err-sent-clause-same : goal.returns-in_err-sent-clause-same
returns-in_err-sent-clause-same g c = λ read is sync. record { name = refl; admin = refl }

pub returns-in-Err-clause-same : goal.returns-in-Err-clause-same
returns-in-Err-clause-same g c = λ read is sync. record {
  name = c.exchange-replied.ensures.name;
  admin = c.exchange-replied.ensures.admin read (Some []) (came c.in_ok-sent.sent.items c.args.bytes.now read c.in_ok-sent.ensures.bytes is) sync;
}

pub returns-in-Ok-clause-same : goal.returns-in-Ok-clause-same
returns-in-Ok-clause-same g c = λ read is sync. record {
  name = c.exchange-replied.ensures.name;
  admin = c.exchange-replied.ensures.admin read (Some []) (came c.in_ok-sent.sent.items c.args.bytes.now read c.in_ok-sent.ensures.bytes is) sync;
}

-- ---- what passed

pub returns-in_err-sent-clause-told : goal.returns-in_err-sent-clause-told
returns-in_err-sent-clause-told g c =
    let failed = err_from_is_err_and c.from_residual.result c.from_residual.ensures.1 in
    subst (λ r. GrowsBy (g.C.Carry.passed c.args.self.now.carry.now) (g.C.Carry.passed c.pass.new.self)
    (λ more. MatchResult r (λ reply. more ≡ c.args.bytes.now ∷ reply.items ∷ []) (λ _. IsUnanswered c.args.bytes.now more))) (sym failed.1)
    (none_asked c.args.bytes.now (g.C.Carry.passed c.args.self.now.carry.now) (g.C.Carry.passed c.pass.new.self) c.in_err-sent.ensures.told)

pub returns-in-Err-clause-told : goal.returns-in-Err-clause-told
returns-in-Err-clause-told g c =
    only_asked c.args.bytes.now c.in_ok-sent.sent.items (g.C.Carry.passed c.args.self.now.carry.now) (g.C.Carry.passed c.pass.new.self) c.in_ok-sent.ensures.bytes c.in_ok-sent.ensures.told

pub returns-in-Ok-clause-told : goal.returns-in-Ok-clause-told
returns-in-Ok-clause-told g c =
    asked_whole (λ v. v.items) c.args.bytes.now c.in_ok-sent.sent.items (g.C.Carry.passed c.args.self.now.carry.now) (g.C.Carry.passed c.pass.new.self) (g.C.Carry.passed c.pass-in-Ok.new.self)
    c.pass-in-Ok.result c.in_ok-sent.ensures.bytes c.in_ok-sent.ensures.told c.pass-in-Ok.ensures.told
