use Rattle.std.proofs.Common.{◌^◌, ◌<◌, List, [], Some, Ok, length, subst, sym, arith}
use Rattle.misp_http.specs.Reading.{IsRead}
use Rattle.misp_core.specs.Standing.{host_of}
use Rattle.misp_client.specs.Requests.{read_of_call}
use Rattle.misp_net.proofs.Calls.{body_fits, body_small, call_answered}
use Rattle.misp_net.proofs.over_carry.OverCarryWire.ask.Goals as goal

pub returns-clause-answered : goal.returns-clause-answered
returns-clause-answered g c = λ key call callable is.
    let now = c.args.self.now in
    let text = c.args.bytes.now in
    let small : length text < 2 ^ 63 = omega arith in
    let fits = body_fits key call text is (λ i. omega (arith, c.type_inv.bytes i)) in
    let came = subst (λ bytes. IsRead bytes (Ok (read_of_call key call)) (Some [])) (sym is) (c.a_call_is_read_back.ensures key call callable (body_small key call text is small)) in
    let states = c.a_call_comes_to_what_is_stated.ensures in
    call_answered key call now.now now.word now.peer.now c.exchanged.new.self.peer.now (λ seen. states.comes (host_of now.peer.now) now.now now.word key call seen callable fits)
    (states.asked (host_of now.peer.now) now.word key call callable fits) c.holds_sound_rows.ensures c.has_owners.ensures (λ v. v.items) c.exchanged.result (c.exchanged.ensures.answered (read_of_call key call) came)
    (c.exchanged.ensures.left (read_of_call key call) came)

pub returns-clause-same : goal.returns-clause-same
returns-clause-same g c = λ key call callable is.
    let now = c.args.self.now in
    let text = c.args.bytes.now in
    let small : length text < 2 ^ 63 = omega arith in
    let fits = body_fits key call text is (λ i. omega (arith, c.type_inv.bytes i)) in
    let came = subst (λ bytes. IsRead bytes (Ok (read_of_call key call)) (Some [])) (sym is) (c.a_call_is_read_back.ensures key call callable (body_small key call text is small)) in
    record {
      host = c.exchanged.ensures.same (read_of_call key call) came (c.a_call_comes_to_what_is_stated.ensures.asked (host_of now.peer.now) now.word key call callable fits);
      later = c.exchanged.ensures.later;
      silent = c.exchanged.ensures.silent;
    }
