-- A row that is deleted is a row.
use Rattle.std.proofs.Common.{◌≡◌, ℕ, Bool, false, refl, eqb}
use Rattle.misp_model.proofs.Prelude.{Content, IsContent, IsRow, IsStamp, Row, as_deleted, content_kind, last_stamp, may_remove}
use Rattle.misp_copies.specs.Renewing.{renewed}
use Rattle.misp_copies.proofs.RenewedRows.{renewed_row}

deleted_kind : (c : Content) → content_kind (as_deleted c) ≡ content_kind c
unfolding as_deleted
deleted_kind (Content.Event b) = refl
deleted_kind _ = refl

deleted_content : (may : Bool) (c : Content) → IsContent may c → IsContent may (as_deleted c)
unfolding as_deleted
deleted_content may (Content.Event b) h = h
deleted_content may _ h = h

pub deleted_row : (now : ℕ) (row : Row) → IsStamp now → IsRow row → eqb row.stamp last_stamp ≡ false → IsRow (renewed now row row.label (as_deleted row.content))
deleted_row now row s is e = renewed_row now row (as_deleted row.content) s is e (deleted_kind row.content) (deleted_content (may_remove row.key) row.content is.1.1.1.1.1.1)
