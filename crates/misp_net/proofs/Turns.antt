-- A session at one instance is a run of its requests, one after another.
use Rattle.std.proofs.Common.{◌≡◌, ◌≢◌, ℕ, zero, suc, ◌+◌, ◌<◌, ◌≤◌, Bool, true, ◌||◌, List, [], ◌∷◌, ◌++◌, length, map, get_or, set, Option, Some, refl, sym, ◌∙◌, ap, subst, inl, inr, arith, append_assoc, append-nil, length-append, length-set, get_or-set_same}
use Rattle.std.proofs.lemmas.List.{length-map, map-append, set-set}
use Rattle.misp_http.specs.declared.request.Read.{Read}
use Rattle.misp_http.specs.declared.request.ReadEnd.TheVariants as reading
use Rattle.misp_api.specs.Sending.{IsAnswered}
use Rattle.misp_core.specs.Text.{http_text}
use Rattle.misp_api.specs.Session.{Runs, Session, end_after, is_last}
use Rattle.misp_api.specs.Turn.{Answers, Goes, Point, Turned, closes, next_word}
use Rattle.misp_api.specs.declared.TheConstants.{MAX_REQUESTS}
use Rattle.misp_api.specs.declared.sessions.End.{End}
use Rattle.misp_api.specs.declared.sessions.End.TheVariants as ends
use Rattle.misp_api.specs.declared.sessions.SessionEnd.{SessionEnd}
use Rattle.misp_api.specs.declared.turn.Turn.{Turn}
use Rattle.misp_api.specs.declared.turn.Turn.TheVariants as turns
use Rattle.misp_effects.proofs.Courses.{no_lines}
use Rattle.misp_net.proofs.Appending.{one_ran}
use Rattle.misp_net.specs.Prelude.{Act, AreAmong, Host, Output, Ran, Replied, Reply, Seen, Standing, host_of, hosts_of, seen_in, spelled, states_of, stop_in}
use Rattle.misp_net.specs.Acts.{AreRead, Asks, EndsHere, act, asks_from}
use Rattle.misp_net.specs.Meaning.{AreAsFormed, IsAsFormed, meaning}
use Rattle.misp_net.specs.Text.{replies_text}
use Rattle.misp_net.specs.Walk.{hosts_after, hosts_left}
use Rattle.misp_net.proofs.Courses.{formed_append, ran_append}
use Rattle.misp_net.proofs.Steps.{hosts_answered, one_read, read_formed}
use Rattle.misp_net.proofs.Walks.{left_append}

-- ---- requests after requests

-- the next word after these
abbrev pub word_behind : List Read → ℕ → ℕ
word_behind [] word = word
word_behind (read ∷ reads) word = word_behind reads (next_word read word)

asks_push : (time word at : ℕ) (reads : List Read) (read : Read) → asks_from time word at (reads ++ read ∷ []) ≡ asks_from time word at reads ++ act time (word_behind reads word) (Asks at read) ∷ []
asks_push time word at [] read = refl
asks_push time word at (r ∷ reads) read = ap (λ acts. act time word (Asks at r) ∷ acts) (asks_push time (next_word r word) at reads read)

word_push : (reads : List Read) (read : Read) (word : ℕ) → word_behind (reads ++ read ∷ []) word ≡ next_word read (word_behind reads word)
word_push [] read word = refl
word_push (r ∷ reads) read word = word_push reads read (next_word r word)

asks_long : (time word at : ℕ) (reads : List Read) → length (asks_from time word at reads) ≡ length reads
asks_long time word at [] = refl
asks_long time word at (r ∷ reads) = ap suc (asks_long time (next_word r word) at reads)

asks_among : (count time word at : ℕ) (reads : List Read) → at < count → AreAmong count (asks_from time word at reads)
asks_among count time word at [] lt = tt
asks_among count time word at (r ∷ reads) lt = (lt, asks_among count time (next_word r word) at reads lt)

text_push : (k : ℕ) (reads : List Read) (replies : List Reply) (read : Read) (reply : Reply) → length replies ≡ length reads
    → replies_text k (reads ++ read ∷ []) (replies ++ reply ∷ []) ≡ replies_text k reads replies ++ http_text reply (closes read || is_last (k + length reads))
text_push k [] [] read reply each =
    append-nil (http_text reply (closes read || is_last k)) ∙ ap (λ n. http_text reply (closes read || is_last n)) (omega arith)
text_push k [] (y ∷ replies) read reply each = absurd (omega (arith, each))
text_push k (r ∷ reads) [] read reply each = absurd (omega (arith, each))
text_push k (r ∷ reads) (y ∷ replies) read reply each =
    let count : suc k + length reads ≡ k + suc (length reads) = omega arith in
    ap (λ text. http_text y (closes r || is_last k) ++ text) (text_push (suc k) reads replies read reply (omega (arith, each)))
    ∙ ap (λ n. http_text y (closes r || is_last k) ++ (replies_text (suc k) reads replies ++ http_text reply (closes read || is_last n))) count
    ∙ sym (append_assoc (http_text y (closes r || is_last k)) (replies_text (suc k) reads replies) (http_text reply (closes read || is_last (k + suc (length reads)))))

-- ---- one instance among all

module _ (now at : ℕ) (base : List Standing) (none : Standing) (lt : at < length base) where
  -- all of them, where it stands so
  abbrev here : Standing → List Standing
  here x = set base at x

  there : (x : Standing) → get_or (here x) at none ≡ x
  there x = get_or-set_same base at x none lt

  within : (x : Standing) → at < length (here x)
  within x = omega (arith, lt, length-set base at x)

  module _ (word : ℕ) (read : Read) (x y : Standing) (reply : Reply) (answered : IsAnswered now word read x y reply) where
    before : IsAnswered now word read (get_or (here x) at none) y reply
    before = subst (λ i. IsAnswered now word read i y reply) (sym (there x)) answered

    pub read_ran : Ran (hosts_of (here x)) (act now word (Asks at read) ∷ []) (states_of (here x)) (states_of (here y)) (Replied reply ∷ [])
    read_ran =
        subst (λ (after : List Standing). Ran (hosts_of (here x)) (act now word (Asks at read) ∷ []) (states_of (here x)) (states_of after) (Replied reply ∷ [])) (set-set base at x y)
        (one_ran Seen Output seen_in spelled stop_in (meaning (hosts_of (here x)) (act now word (Asks at read))).means (states_of (here x)) _ (Replied reply)
        (one_read now word at read (here x) y none reply (within x) before))

    pub read_as_formed : IsAsFormed (meaning (hosts_of (here x)) (act now word (Asks at read))).formed (Replied reply)
    read_as_formed = read_formed now word at read (here x) y none reply (within x) before

    pub read_walked : hosts_of (here y) ≡ hosts_after (hosts_of (here x)) (act now word (Asks at read)) (Replied reply)
    read_walked = ap hosts_of (sym (set-set base at x y)) ∙ hosts_answered now word at read (here x) y none reply (within x) before

  -- what came of so many requests of a session
  pub record Partly (p : Point) (n : ℕ) (instance : Standing) (word : ℕ) (written : List ℕ) (goes_on : List Read → End → Type 0) : Type 0 where
    pub reads : List Read
    pub replies : List Reply
    pub long : length reads ≡ n
    pub each : length replies ≡ length reads
    pub word_is : word ≡ word_behind reads p.word
    pub ran : Ran (hosts_of (here p.instance)) (asks_from now p.word at reads) (states_of (here p.instance)) (states_of (here instance)) (map Replied replies)
    pub formed : AreAsFormed (hosts_of (here p.instance)) (asks_from now p.word at reads) (map Replied replies)
    pub walked : hosts_of (here instance) ≡ hosts_left (hosts_of (here p.instance)) (asks_from now p.word at reads) (map Replied replies)
    pub wrote : written ≡ p.written ++ replies_text 0 reads replies
    pub read : (later : List Read) (end : End) → goes_on later end → AreRead 0 p.bytes (reads ++ later) end

  module _ (p : Point) where
    -- all of them at its start
    abbrev first : List Host
    first = hosts_of (here p.instance)

    none_yet : Partly p 0 p.instance p.word p.written (λ later end. AreRead 0 p.bytes later end)
    none_yet = record {
      reads = [];
      replies = [];
      long = refl;
      each = refl;
      word_is = refl;
      ran = no_lines Seen Output seen_in spelled stop_in (states_of (here p.instance));
      formed = tt;
      walked = refl;
      wrote = sym (append-nil p.written);
      read = λ later end all. all;
    }

    module _ (n : ℕ) (few : n < MAX_REQUESTS) (q : Point) (so_far : Partly p n q.instance q.word q.written (λ later end. AreRead n q.bytes later end))
        (read : Read) (reply : Reply) (left : Option (List ℕ)) (instance : Standing) (word : Option ℕ) (answers : Answers now q read left instance word reply)
        (close : Bool) (close_is : (closes read || is_last n) ≡ close) where
      -- and one more
      one_more : (goes_on : List Read → End → Type 0) → ((later : List Read) (end : End) → goes_on later end → AreRead n q.bytes (read ∷ later) end)
          → Partly p (suc n) instance (next_word read q.word) (q.written ++ http_text reply close) goes_on
      one_more goes_on follows =
          let reads = so_far.reads in
          let replies = so_far.replies in
          let acts : List Act = asks_from now p.word at reads in
          let told : List Output = map Replied replies in
          let next : q.word ≡ word_behind reads p.word = so_far.word_is in
          let a : Act = act now (word_behind reads p.word) (Asks at read) in
          let answered : IsAnswered now (word_behind reads p.word) read q.instance instance reply = subst (λ w. IsAnswered now w read q.instance instance reply) next answers.answered in
          let pushed : asks_from now p.word at (reads ++ read ∷ []) ≡ acts ++ a ∷ [] = asks_push now p.word at reads read in
          let outputs : map Replied (replies ++ reply ∷ []) ≡ told ++ Replied reply ∷ [] = map-append Replied replies (reply ∷ []) in
          let count : n ≡ 0 + length reads = omega (arith, so_far.long) in
          let long : length told ≡ length acts = length-map replies Replied ∙ so_far.each ∙ sym (asks_long now p.word at reads) in
          record {
            reads = reads ++ read ∷ [];
            replies = replies ++ reply ∷ [];
            long = omega (arith, so_far.long, length-append reads (read ∷ []));
            each = omega (arith, so_far.each, length-append reads (read ∷ []), length-append replies (reply ∷ []));
            word_is = ap (next_word read) next ∙ sym (word_push reads read p.word);
            ran =
                subst (λ done. Ran first done (states_of (here p.instance)) (states_of (here instance)) (map Replied (replies ++ reply ∷ []))) (sym pushed)
                (subst (λ os. Ran first (acts ++ a ∷ []) (states_of (here p.instance)) (states_of (here instance)) os) (sym outputs)
                (ran_append first acts (a ∷ []) told (Replied reply ∷ []) _ _ _ so_far.ran
                (subst (λ (hosts : List Host). Ran hosts (a ∷ []) (states_of (here q.instance)) (states_of (here instance)) (Replied reply ∷ [])) so_far.walked
                (read_ran (word_behind reads p.word) read q.instance instance reply answered))));
            formed =
                subst (λ done. AreAsFormed first done (map Replied (replies ++ reply ∷ []))) (sym pushed)
                (subst (λ os. AreAsFormed first (acts ++ a ∷ []) os) (sym outputs)
                (formed_append first acts (a ∷ []) told (Replied reply ∷ []) long so_far.formed
                (subst (λ (hosts : List Host). AreAsFormed hosts (a ∷ []) (Replied reply ∷ [])) so_far.walked
                (read_as_formed (word_behind reads p.word) read q.instance instance reply answered, tt))));
            walked =
                read_walked (word_behind reads p.word) read q.instance instance reply answered
                ∙ ap (λ (hosts : List Host). hosts_after hosts a (Replied reply)) so_far.walked
                ∙ sym (left_append first acts (a ∷ []) told (Replied reply ∷ []) long)
                ∙ sym (λ i. hosts_left first (pushed i) (outputs i));
            wrote =
                ap (λ text. text ++ http_text reply close) so_far.wrote
                ∙ append_assoc p.written (replies_text 0 reads replies) (http_text reply close)
                ∙ ap (λ text. p.written ++ text)
                (ap (λ c. replies_text 0 reads replies ++ http_text reply c) (sym close_is)
                ∙ ap (λ k. replies_text 0 reads replies ++ http_text reply (closes read || is_last k)) count
                ∙ sym (text_push 0 reads replies read reply so_far.each));
            read = λ later end holds.
                subst (λ all. AreRead 0 p.bytes all end) (sym (append_assoc reads (read ∷ []) later)) (so_far.read (read ∷ later) end (follows later end holds));
          }

    -- a request that goes on
    goes_more : (n : ℕ) → n < MAX_REQUESTS → (mid q : Point) → Partly p n mid.instance mid.word mid.written (λ later end. AreRead n mid.bytes later end) → Goes now (is_last n) mid q
        → Partly p (suc n) q.instance q.word q.written (λ later end. AreRead (suc n) q.bytes later end)
    goes_more n few mid q so_far goes =
        let word : next_word goes.read mid.word ≡ q.word = cc in
        subst (λ w. Partly p (suc n) q.instance w q.written (λ later end. AreRead (suc n) q.bytes later end)) word
        (subst (λ w. Partly p (suc n) q.instance (next_word goes.read mid.word) w (λ later end. AreRead (suc n) q.bytes later end)) (sym goes.wrote)
        (one_more n few mid so_far goes.read goes.reply (Some q.bytes) q.instance (Some q.word) goes.answers (is_last n) (ap (λ b. b || is_last n) goes.stays)
        (λ later end. AreRead (suc n) q.bytes later end)
        (λ later end all. (few, (Some q.bytes, goes.answers.is, rw goes.stays all)))))

    pub some_ran : (n : ℕ) → n ≤ MAX_REQUESTS → (q : Point) → Runs now n p q → Partly p n q.instance q.word q.written (λ later end. AreRead n q.bytes later end)
    some_ran zero few q same = subst (λ (v : Point). Partly p 0 v.instance v.word v.written (λ later end. AreRead 0 v.bytes later end)) (sym same) none_yet
    some_ran (suc n) few q (mid, runs, goes) = goes_more n (omega (arith, few)) mid q (some_ran n (omega (arith, few)) mid runs) goes

    -- ---- the whole session

    pub record IsSession (end : End) (instance : Standing) (written : List ℕ) : Type 0 where
      pub reads : List Read
      pub replies : List Reply
      pub read : AreRead 0 p.bytes reads end
      pub ran : Ran first (asks_from now p.word at reads) (states_of (here p.instance)) (states_of (here instance)) (map Replied replies)
      pub formed : AreAsFormed first (asks_from now p.word at reads) (map Replied replies)
      pub among : AreAmong (length first) (asks_from now p.word at reads)
      pub walked : hosts_of (here instance) ≡ hosts_left first (asks_from now p.word at reads) (map Replied replies)
      pub wrote : written ≡ p.written ++ replies_text 0 reads replies

    -- where no more is read
    finished : (n : ℕ) (instance : Standing) (word : ℕ) (written : List ℕ) (goes_on : List Read → End → Type 0) (end : End) → Partly p n instance word written goes_on → goes_on [] end → IsSession end instance written
    finished n instance word written goes_on end so_far over = record {
      reads = so_far.reads;
      replies = so_far.replies;
      read = subst (λ all. AreRead 0 p.bytes all end) (append-nil so_far.reads) (so_far.read [] end over);
      ran = so_far.ran;
      formed = so_far.formed;
      among = asks_among (length first) now p.word at so_far.reads (omega (arith, within p.instance, length-map (here p.instance) host_of));
      walked = so_far.walked;
      wrote = so_far.wrote;
    }

    -- where a request closes it
    closed : (n : ℕ) → n < MAX_REQUESTS → (q : Point) → Partly p n q.instance q.word q.written (λ later end. AreRead n q.bytes later end)
        → (read : Read) (reply : Reply) (left : Option (List ℕ)) (instance : Standing) (word : Option ℕ) → Answers now q read left instance word reply → closes read ≡ true
        → IsSession ends.Closed instance (q.written ++ http_text reply true)
    closed n few q so_far read reply left instance word answers shuts =
        finished (suc n) instance (next_word read q.word) _ (λ later end. (later ≡ []) × (end ≡ ends.Closed)) ends.Closed
        (one_more n few q so_far read reply left instance word answers true (ap (λ b. b || is_last n) shuts)
        (λ later end. (later ≡ []) × (end ≡ ends.Closed)) (λ later end over. (few, (left, answers.is, rw shuts over))))
        (refl, refl)

    -- where nothing more is done
    over : (n : ℕ) (q : Point) → Partly p n q.instance q.word q.written (λ later end. AreRead n q.bytes later end) → (end : End) (instance : Standing) (written : List ℕ)
        → instance ≡ q.instance → Some written ≡ Some q.written → EndsHere n q.bytes end → IsSession end instance written
    over n q so_far end instance written same wrote ends_so =
        let text : q.written ≡ written = cc in
        subst (λ i. IsSession end i written) (sym same)
        (subst (λ w. IsSession end q.instance w) text (finished n q.instance q.word q.written (λ later end. AreRead n q.bytes later end) end so_far ends_so))

    -- by how its last turn went
    by_turn : (n : ℕ) → n < MAX_REQUESTS → (q : Point) → Partly p n q.instance q.word q.written (λ later end. AreRead n q.bytes later end)
        → (turn : Turn) (end : SessionEnd) (left : Option (List ℕ)) (instance : Standing) (word : Option ℕ) (written : List ℕ)
        → Turned now (is_last n) q turn left instance word (Some written) → end_after n turn ≡ Some end → end.end ≢ ends.ReadFault → end.end ≢ ends.WriteFault
        → IsSession end.end instance written
    by_turn n few q so_far turns.Goes end left instance word written turned ends_so no_read no_write = absurd cc
    by_turn n few q so_far turns.Closes end left instance word written (read, reply, answers, shuts, wrote) ends_so no_read no_write =
        let how : ends.Closed ≡ end.end = cc in
        let text : q.written ++ http_text reply true ≡ written = cc in
        subst (λ e. IsSession e instance written) how
        (subst (λ w. IsSession ends.Closed instance w) text (closed n few q so_far read reply left instance word answers shuts))
    by_turn n few q so_far (turns.Ends reading.Ended) end left instance word written (same, next, wrote, at) ends_so no_read no_write =
        over n q so_far end.end instance written same wrote (let how : ends.Ended ≡ end.end = cc in subst (EndsHere n q.bytes) how (few, at.1))
    by_turn n few q so_far (turns.Ends reading.Cut) end left instance word written (same, next, wrote, at) ends_so no_read no_write =
        over n q so_far end.end instance written same wrote (let how : ends.Cut ≡ end.end = cc in subst (EndsHere n q.bytes) how (few, at))
    by_turn n few q so_far (turns.Ends reading.ReadFault) end left instance word written turned ends_so no_read no_write =
        let how : end.end ≡ ends.ReadFault = cc in absurd (no_read how)
    by_turn n few q so_far (turns.Ends reading.NoMemory) end left instance word written (same, next, wrote, at) ends_so no_read no_write =
        over n q so_far end.end instance written same wrote (let how : ends.NoMemory ≡ end.end = cc in subst (EndsHere n q.bytes) how tt)
    by_turn n few q so_far turns.NoRoom end left instance word written (same, next, wrote) ends_so no_read no_write =
        over n q so_far end.end instance written same wrote (let how : ends.NoMemory ≡ end.end = cc in subst (EndsHere n q.bytes) how tt)
    by_turn n few q so_far turns.WriteFault end left instance word written turned ends_so no_read no_write =
        let how : end.end ≡ ends.WriteFault = cc in absurd (no_write how)

    pub session_done : (end : SessionEnd) (left : Option (List ℕ)) (instance : Standing) (word : Option ℕ) (written : List ℕ)
        → Session now p end left instance word (Some written) → end.end ≢ ends.ReadFault → end.end ≢ ends.WriteFault → IsSession end.end instance written
    session_done end left instance word written (inl (n, few, q, turn, runs, turned, ends_so)) no_read no_write =
        by_turn n few q (some_ran n (omega (arith, few)) q runs) turn end left instance word written turned ends_so no_read no_write
    session_done end left instance word written (inr (q, runs, at, ends_so)) no_read no_write =
        let how : ends.Quota ≡ end.end = cc in
        let text : Some written ≡ Some q.written = at.written_are in
        over MAX_REQUESTS q (some_ran MAX_REQUESTS (omega arith) q runs) end.end instance written at.instance_is text (subst (EndsHere MAX_REQUESTS q.bytes) how refl)
