use Rattle.std.proofs.Common.{sym, ◌∙◌, arith}
use Rattle.misp_http.proofs.Lengths.{all_within, body_length_bound}
use Rattle.misp_http.proofs.Texts.{token_is_text}
use Rattle.misp_http.proofs.parsing.whole_head.Goals as goal

pub body_length-requires : goal.body_length-requires
body_length-requires c = all_within _ _ _ _ c.requires.within.section

pub returns-in-Err : goal.returns-in-Err
returns-in-Err c =
    let head = c.requires.head in
    (head.0, (_, head.1.reads), rw (← head.1.fields) (sym c.body_length.ensures ∙ c.in-Err.is))

pub utf8_text-requires : goal.utf8_text-requires
utf8_text-requires c = rw (c.of.ensures, c.requires.head.1.method) (token_is_text _ c.requires.head.1.reads.0.method)

pub key-requires : goal.key-requires
key-requires c = all_within _ _ _ _ c.requires.within.section

pub asks_to_close-requires : goal.asks_to_close-requires
asks_to_close-requires c = all_within _ _ _ _ c.requires.within.section

pub invariant_of-result : goal.invariant_of-result
invariant_of-result c = record {
  short = omega (arith, c.requires.within.section.len_fits, c.requires.short);
  small = body_length_bound _ _ (sym c.body_length.ensures ∙ c.in-Ok.is);
}
