use Rattle.std.proofs.Common.{◌≡◌, ap, subst, ◌∙◌, OnOk}
use Rattle.uuid.specs.Text.{lower, hyphenated_text}
use Rattle.misp_ids.specs.Uid.{text_of}
use Rattle.misp_format.specs.Prelude.{put_member, string}
use Rattle.misp_format.proofs.writing.writer.Writer.uuid.Goals as goal

pub returns : goal.returns
returns c =
    let spelled : c.encode_lower.result.now ≡ text_of c.args.uuid.now = c.encode_lower.ensures.text ∙ ap (hyphenated_text lower) (c.hyphenated-form.ensures ∙ c.from_u128.ensures) in
    subst (λ t. OnOk c.text.result (c.text.new.self ≡ put_member c.args.name.now (string t) c.args.self.now)) spelled c.text.ensures
