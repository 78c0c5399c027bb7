-- Bytes that were written in parts.
use Rattle.std.proofs.Common.{◌≡◌, ℕ, List, [], ◌++◌, length, take, Option, Some, None, sym, ◌∙◌, ap, append_assoc, append-nil, refl, take_at}
use Rattle.std.specs.Io.KnownBytes.{Appends, Keeps}
use Rattle.misp_http.specs.Streams.{AppendsSome}

pub appends_none : (written : Option (List ℕ)) → Appends written written []
appends_none None = tt
appends_none (Some bytes) = sym (append-nil bytes)

pub appends_more : (before mid now : Option (List ℕ)) (first more : List ℕ) → Appends before mid first → Appends mid now more → Appends before now (first ++ more)
appends_more None mid now first more a b = tt
appends_more (Some before) None now first more a b = absurd a
appends_more (Some before) (Some mid) None first more a b = absurd b
appends_more (Some before) (Some mid) (Some now) first more a b = b ∙ ap (λ front. front ++ more) a ∙ append_assoc before first more

appends_kept : (before mid now : Option (List ℕ)) (bytes : List ℕ) → Appends before mid bytes → Keeps mid now → Appends before now bytes
appends_kept None mid now bytes appended kept = tt
appends_kept (Some before) None now bytes appended kept = absurd appended
appends_kept (Some before) (Some mid) None bytes appended kept = absurd kept
appends_kept (Some before) (Some mid) (Some now) bytes appended kept = kept ∙ appended

-- where a write failed, what was sent before it stays
pub some_sent : (before mid now : Option (List ℕ)) (sent rest bytes : List ℕ) → sent ++ rest ≡ bytes → Appends before mid sent → Keeps mid now → AppendsSome before now bytes
some_sent before mid now sent rest bytes all appended kept =
    let front : take (length sent) bytes ≡ sent = rw (← all) (take_at sent rest (length sent) refl) in
    (length sent, rw front (appends_kept before mid now sent appended kept))
