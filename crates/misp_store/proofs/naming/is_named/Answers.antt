use Rattle.std.proofs.Common.{◌≡◌, ◌∙◌, ap, arith, bytes_eq, drop, eqb-true, length, take}
use Rattle.misp_lists.proofs.Prelude.{false_from_ne_true}
use Rattle.misp_elem.specs.Spelling.{key}
use Rattle.misp_model.specs.Machine.{name_bytes}
use Rattle.misp_store.proofs.RowNames.{after_first, name_long, named, other_long}
use Rattle.misp_store.proofs.naming.is_named.Goals as goal

pub returns-then-name-key_length : goal.returns-then-name-key_length
returns-then-name-key_length c =
    let size : c.key_length.result ≡ length (key c.args.row.now.key) =
    c.key_length.ensures.length ∙ (λ i. length (key (c.row-inside.view_is i).key)) ∙ (λ i. length (key (c.row.view_is i).key)) in
    let long : length c.args.raw.now.name ≡ length (name_bytes c.args.row.now) =
    omega (arith, c.if-name-key_length.true, ap length c.as_slice-name.ensures, size, name_long c.args.row.now) in
    c.starts_with.ensures.value
    ∙ (λ i. bytes_eq (c.as_slice-name.ensures i) (take (length (c.as_slice-name.ensures i)) (after_first c.as_slice-bytes.result.now i)))
    ∙ ap (λ bytes. bytes_eq c.args.raw.now.name (take (length c.args.raw.now.name) (drop 1 bytes))) c.as_slice-bytes.ensures
    ∙ named c.args.row.now c.args.raw.now.name c.args.raw.now.bytes c.requires long

pub returns-else-name-key_length : goal.returns-else-name-key_length
returns-else-name-key_length c =
    let size : c.key_length.result ≡ length (key c.args.row.now.key) =
    c.key_length.ensures.length ∙ (λ i. length (key (c.row-inside.view_is i).key)) ∙ (λ i. length (key (c.row.view_is i).key)) in
    false_from_ne_true _ (λ t. c.if-name-key_length.false (eqb-true _ _ t))
    ∙ other_long c.args.row.now c.args.raw.now.name (λ e.
    c.if-name-key_length.false (omega (arith, e, ap length c.as_slice-name.ensures, size, name_long c.args.row.now)))
