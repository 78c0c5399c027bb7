-- The definitions and types that many files name, passed on from one place. Declares nothing.
pub use Rattle.std.specs.Option.{option_map_or}
pub use Rattle.misp_ids.specs.Refusal.{rule_number}
pub use Rattle.misp_groups.specs.Prelude.{bare}
pub use Rattle.misp_orgs.specs.Keys.{CallerFields as Caller}
pub use Rattle.misp_effects.specs.Batches.{AreReadable, put_batches}
pub use Rattle.misp_effects.specs.Effect.{Outcome, Went, left}
pub use Rattle.misp_effects.specs.Prelude.{KeeperState, Tell}
unfoldable pub use Rattle.misp_format.specs.Prelude.{IsStrictlySortedBy}
pub use Rattle.misp_format.specs.declared.fault.FormatFault.{FormatFault}
pub use Rattle.misp_model.specs.Machine.{seeing}
pub use Rattle.misp_model.specs.Permission.{forbidden, is_permitted}
unfoldable pub use Rattle.misp_model.specs.Prelude.{ask_rules, same_inst}
pub use Rattle.misp_model.specs.Prelude.{EventId, Inst, OrgId, Scene, Stamp, list_all}
pub use Rattle.misp_model.specs.declared.ask.Ask.{Ask}
pub use Rattle.misp_model.specs.declared.ask.Ask.TheVariants.{View}
unfoldable pub use Rattle.misp_history.specs.Acts.{step}
pub use Rattle.misp_history.specs.Acts.{World}
unfoldable pub use Rattle.misp_history.specs.History.{fresh_row, tables}
unfoldable pub use Rattle.misp_store.specs.Prelude.{groups_in}
pub use Rattle.misp_store.specs.Prelude.{Admin, AllByRecursion, Effect, Group, Held, IsGroup, Refusal, Row, RuleName, reach_of, spelled}
pub use Rattle.misp_store.specs.Seen.{Seen, seen_in}
pub use Rattle.misp_store.specs.Sharing.{groups_of}
pub use Rattle.misp_core.specs.Administering.{administered}
unfoldable pub use Rattle.misp_core.specs.Answers.{reply_in, writes_in}
pub use Rattle.misp_core.specs.Answers.{Asked, IsBuilt, scene_at}
pub use Rattle.misp_core.specs.Effects.{Did, IsRefused, asked_over, asked_where, read_where, refused, refused_by, requested, stop_in}
pub use Rattle.misp_core.specs.Keeping.{Keeps}
pub use Rattle.misp_core.specs.Planning.{IsPlanned, Plans}
pub use Rattle.misp_core.specs.Standing.{Host, Standing, host_of}
pub use Rattle.misp_core.specs.declared.planning.Plan.{Plan}
pub use Rattle.misp_core.specs.declared.reply.Answer.{Answer}
pub use Rattle.misp_core.specs.declared.reply.Reply.{Reply}
