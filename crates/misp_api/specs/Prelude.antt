-- The definitions and types that many files name, passed on from one place. Declares nothing.
pub use Rattle.misp_model.specs.Prelude.{Submission}
pub use Rattle.misp_store.specs.Prelude.{Stop}
pub use Rattle.misp_core.specs.Effects.{by_keeper}
pub use Rattle.misp_core.specs.Prelude.{Admin, Ask, Asked, Caller, Effect, FormatFault, Group, Held, Host, IsRefused, OrgId, RuleName, Standing, forbidden, is_permitted, refused_by, seen_in, stop_in}
pub use Rattle.misp_core.specs.declared.reply.Reply.{Reply}
pub use Rattle.misp_api.specs.Administering.{grouped}
pub use Rattle.misp_api.specs.Commands.{Commanded, barred, command_effect, commanded, is_allowed}
unfoldable pub use Rattle.misp_api.specs.Answering.{read_of}
pub use Rattle.misp_api.specs.Answering.{caller_in, form_of, replied}
unfoldable pub use Rattle.misp_api.specs.Request.{command_of}
pub use Rattle.misp_api.specs.Request.{Gives, Reading, RequestData, event_in, formed}
unfoldable pub use Rattle.misp_api.specs.Route.{route_of}
pub use Rattle.misp_api.specs.Unread.{fault_reply}
pub use Rattle.misp_api.specs.declared.command.Command.{Command}
pub use Rattle.misp_api.specs.declared.request.AskFault.{AskFault}
pub use Rattle.misp_api.specs.declared.route.Route.{Route}
