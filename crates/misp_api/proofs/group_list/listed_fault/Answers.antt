use Rattle.std.proofs.Common.{◌++◌, ◌∙◌, ap, subst}
use Rattle.misp_format.specs.Groups.{group_body_at}
use Rattle.misp_format.specs.Path.{item_path}
use Rattle.misp_format.specs.Rows as rows
use Rattle.misp_api.specs.GroupList.{first_name}
use Rattle.misp_api.proofs.ListedGroups.{fault_listed, no_file_listed, no_json_listed}
use Rattle.misp_api.proofs.group_list.listed_fault.Goals as goal

pub returns-in-Ok : goal.returns-in-Ok
returns-in-Ok c = λ d fails.
    fault_listed c.args.place d c.in-BadField.path c.in-Ok.path c.in-BadField.need (subst (λ fault. rows.Fails fault (group_body_at d)) c.in-BadField.is fails)
    (λ rest is. c.in-Ok.ensures ∙ ap (λ text. item_path first_name c.args.place ++ text) (c.after_first_name.ensures rest (c.as_str.ensures ∙ is)))

pub returns-in-BinaryType : goal.returns-in-BinaryType
returns-in-BinaryType c = λ d fails. absurd (no_file_listed c.args.place d c.in-BinaryType.path (subst (λ fault. rows.Fails fault (group_body_at d)) c.in-BinaryType.is fails))

pub returns-in-NoJson : goal.returns-in-NoJson
returns-in-NoJson c = λ d fails. absurd (no_json_listed c.args.place d (subst (λ fault. rows.Fails fault (group_body_at d)) c.in-NoJson.is fails))
