-- What the own instance takes of a package.
use Rattle.std.proofs.Common.{◌≡◌, ◌∙◌, List, length, Ok, sym, ap, subst}
use Rattle.misp_ids.specs.Uid.{IsUid}
use Rattle.misp_model.specs.declared.package.PackageFields.{PackageFields as Package}
use Rattle.misp_orgs.specs.declared.link.Link.{Link}
use Rattle.misp_store.specs.declared.reach.Reach.{Reach}
use Rattle.misp_core.specs.Effects.{row_batches}
use Rattle.misp_core.specs.Prelude.{Held, Host, Row, groups_of, seen_in}
use Rattle.misp_core.specs.Taking.{package_taken, with_package}
use Rattle.misp_client.proofs.Suiting.{few_rows}
use Rattle.misp_protocol.specs.TextTakes.{IsTaken}
use Rattle.misp_protocol.specs.declared.request.Answer.{Answer}
use Rattle.misp_sync.specs.OwnAnswers.{batching, over_rows, own_conduct}
use Rattle.misp_core.proofs.OtherEvents.{batch_put_so}
use Rattle.misp_sync.proofs.TakenRows.{rows_are_taken, taken_ours}

module _ (here : Host) (link : Link) (owner : IsUid link.holder.0) (t : Held) (p : Package) (rows : List Row)
    (read : (seen_in t).rows (Reach.Own link.holder p.event) ≡ Ok rows) where
  abbrev taken : List Row
  taken = package_taken here.name rows (groups_of t) link.holder p

  pub own_taken : IsTaken (own_conduct (here, link)) batching t p (length taken) (row_batches taken) (with_package here.name rows link.holder p t)
  own_taken =
      subst (IsTaken (own_conduct (here, link)) batching t p (length taken) (row_batches taken)) (sym (batch_put_so taken t))
      (rows_are_taken (own_conduct (here, link)) t p link.holder taken
      (ap (λ x. over_rows x (λ rows. (
        Answer.Taken (length (package_taken here.name rows (groups_of t) link.holder p)),
        with_package here.name rows link.holder p t,
      ))) read ∙ ap (λ next. Ok (Answer.Taken (length taken), next)) (batch_put_so taken t))
      (few_rows here.name rows (groups_of t) p link.holder) (λ packs. taken_ours link.holder owner p packs here.name (groups_of t) rows))
