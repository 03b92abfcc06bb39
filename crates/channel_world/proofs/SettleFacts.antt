-- The loop of settling: its polls so far, who is woken, and how many polls are still to come.
use Rattle.std.specs.Prelude.{◌≡◌, ◌≤◌, ◌+◌, ◌*◌, ◌||◌, ◌∷◌, ◌++◌}
use Rattle.channel_world.proofs.Lemmas.{arith, ℕ, suc, Bool, true, false, List, [], map, length, drop, Some, slice_get, refl, sym, ap, subst, ◌∙◌, append_assoc, length-append, length-map, map-append, list_any, Reply, Sends, Receives, Streams, Answer, AwakeIn, is_among, Answers, poll_of, SettlesTo, Settles, NobodyGoesOn, pending_count, State, Waiter, poll_awake, first_there, settle_more, settle_ends, settling_ends, settled_rest as at_rest, woken_next, Polls, polls_in, most_polls, pending_on, NoneLackedMemory, Settled}
use Rattle.channel_steps.specs.solo.Ample.{lacks_memory}
use Rattle.channel_world.proofs.Short.{weight_of, shorter, within, woken_within}

-- ---- lists

behind : {A : Type 0} (xs ys : List A) → slice_get (xs ++ ys) (length xs) ≡ slice_get ys 0
behind [] ys = refl
behind (x ∷ xs) ys = behind xs ys

first_of : {A : Type 0} (x : A) (xs : List A) → slice_get xs 0 ≡ Some x → xs ≡ x ∷ drop 1 xs
first_of x [] e = cc e
first_of x (y ∷ ys) e = let same : y ≡ x = cc e in ap (λ z. z ∷ ys) same

-- ---- how many polls there are at most

pub just_so_many : {T : Type 0} (s : State T) (woken sends receives streams : ℕ) → woken ≡ length s.waiting.woken → sends ≡ pending_on Sends s
    → receives ≡ pending_on Receives s → streams ≡ pending_on Streams s
    → woken + (sends * (streams + 2) + 2 * receives + streams) ≡ most_polls s
just_so_many s woken sends receives streams w a b d = rw (w, a, b, d) refl

-- the same of other names of these numbers
pub few_told : (polls count told pending : ℕ) → count ≡ polls → told ≡ pending → 2 * polls ≤ pending * (pending + 1) → 2 * count ≤ told * (told + 1)
few_told polls count told pending same told_so few = rw (same, told_so) few

pub one_poll : (count told : ℕ) → told ≡ 1 → 2 * count ≤ told * (told + 1) → count ≤ 1
one_poll count told one few = let so = (rw one at few) in omega (arith, so)

any_more : {A : Type 0} (p : A → Bool) (xs : List A) (x : A) → list_any p xs ≡ false → p x ≡ false → list_any p (xs ++ x ∷ []) ≡ false
any_more p [] x h e = rw e refl
any_more p (y ∷ ys) x h e = by (λ k. any_more p ys x k e) (p y) h
  where
    by : (list_any p ys ≡ false → list_any p (ys ++ x ∷ []) ≡ false) → (b : Bool) → (b || list_any p ys) ≡ false → (b || list_any p (ys ++ x ∷ [])) ≡ false
    by on true i = i
    by on false i = on i

module _ {T : Type 0} where
  -- one more poll that was refused no memory
  pub ample_pushed : (polls pushed : List (Settled T)) (w : Waiter) (x : Reply T) → pushed ≡ polls ++ record { name = w; reply = x } ∷ []
      → NoneLackedMemory polls → lacks_memory x ≡ false → NoneLackedMemory pushed
  ample_pushed polls pushed w x e h k =
      subst (λ (ps : List (Settled T)). NoneLackedMemory ps) (sym e)
      (any_more (λ (p : Settled T). lacks_memory p.reply) polls (record { name = w; reply = x }) h k)

  -- ---- the loop

  -- the polls so far have led from s to t; the names are those that were polled, and after them those that are woken
  pub record Goes (s t : State T) (polls : List (Waiter × Reply T)) (names : List Waiter) : Type 0 where
    pub led : SettlesTo s polls t
    pub named : names ≡ map (λ p. p.0) polls ++ t.waiting.woken
    pub began : AwakeIn s
    pub awake : AwakeIn t
    pub left : length polls + weight_of t ≤ most_polls s

  pub goes_first : (s : State T) (names : List Waiter) → AwakeIn s → names ≡ s.waiting.woken → Goes s s [] names
  goes_first s names awake e =
      let few = within s awake in
      record { led = refl; named = e; began = awake; awake = awake; left = omega (arith, few) }

  polled_all : (polls : List (Waiter × Reply T)) → length (map (λ p. p.0) polls) ≡ length polls
  polled_all polls = length-map polls (λ p. p.0)

  pub goes_length : (s t : State T) (polls : List (Waiter × Reply T)) (names : List Waiter) → Goes s t polls names
      → length names ≡ length polls + length t.waiting.woken
  goes_length s t polls names h =
      ap (λ (ws : List Waiter). length ws) h.named
      ∙ (length-append (map (λ p. p.0) polls) t.waiting.woken ∙ ap (λ n. n + length t.waiting.woken) (polled_all polls))

  -- the name that is polled next is the first of those that are woken
  goes_next : (s t : State T) (polls : List (Waiter × Reply T)) (names : List Waiter) (w : Waiter) → Goes s t polls names
      → slice_get names (length polls) ≡ Some w → slice_get t.waiting.woken 0 ≡ Some w
  goes_next s t polls names w h e =
      sym (behind (map (λ p. p.0) polls) t.waiting.woken)
      ∙ (ap (λ n. slice_get (map (λ p. p.0) polls ++ t.waiting.woken) n) (polled_all polls)
      ∙ (ap (λ (ws : List Waiter). slice_get ws (length polls)) (sym h.named) ∙ e))

  module _ (s t : State T) (polls : List (Waiter × Reply T)) (names : List Waiter) (w : Waiter) (h : Goes s t polls names)
      (front : slice_get t.waiting.woken 0 ≡ Some w) where
    rest_of : length t.waiting.woken ≡ suc (length (drop 1 t.waiting.woken))
    rest_of = ap (λ (ws : List Waiter). length ws) (first_of w t.waiting.woken front)

    -- however it answers, there is room for those that it wakes, and more polls are to come
    one_more : (a : Answer T) → Answers t (poll_of w) a → length names + length a.woken ≤ most_polls s
    one_more a says =
        let left = h.left in
        let nearer = shorter t h.awake w a front says in
        let woken = woken_within a.after in
        let next = ap (λ (ws : List Waiter). length ws) (woken_next t h.awake w a front says) in
        let both = length-append (drop 1 t.waiting.woken) a.woken in
        let all = goes_length s t polls names h in
        omega (arith, left, nearer, woken, next, both, all, rest_of)

    some_left : suc (length polls) ≤ most_polls s
    some_left = let left = h.left in let woken = woken_within t in omega (arith, left, woken, rest_of)

    pub goes_on : (u : State T) (x : Reply T) (after : List Waiter) → Polls w t names x after u → Goes s u (polls ++ (w, x) ∷ []) after
    goes_on u x after p =
        let a : Answer T = record { after = u; reply = x; woken = p.woken } in
        let nearer = shorter t h.awake w a front p.answers in
        let left = h.left in
        let more = length-append polls ((w, x) ∷ []) in
        let ws = map (λ (q : Waiter × Reply T). q.0) polls in
        let rest = drop 1 t.waiting.woken in
        record {
          led = settle_more s t u polls w x p.woken h.led front p.answers;
          named = p.names
              ∙ (ap (λ (l : List Waiter). l ++ p.woken) h.named
              ∙ (ap (λ (l : List Waiter). (ws ++ l) ++ p.woken) (first_of w t.waiting.woken front)
              ∙ (append_assoc ws (w ∷ rest) p.woken
              ∙ (sym (append_assoc ws (w ∷ []) (rest ++ p.woken))
              ∙ (ap (λ (l : List Waiter). l ++ (rest ++ p.woken)) (sym (map-append (λ (q : Waiter × Reply T). q.0) polls ((w, x) ∷ [])))
              ∙ ap (λ (l : List Waiter). map (λ (q : Waiter × Reply T). q.0) (polls ++ (w, x) ∷ []) ++ l) (sym (woken_next t h.awake w a front p.answers)))))));
          began = h.began;
          awake = poll_awake t w a h.awake p.answers;
          left = omega (arith, left, nearer, more);
        }

  -- the same of the polls as they stand in a list
  abbrev as_poll : Settled T → Waiter × Reply T
  as_poll p = (p.name, p.reply)

  pub polls_count : (polls : List (Settled T)) → length (polls_in polls) ≡ length polls
  polls_count polls = length-map polls as_poll

  -- one that is polled next: there is room for those that it wakes, and for what it answers
  pub record NextPoll (s t : State T) (polls : List (Settled T)) (names : List Waiter) (w : Waiter) : Type 0 where
    pub front : slice_get t.waiting.woken 0 ≡ Some w
    pub woken : is_among w t.waiting.woken ≡ true
    pub left : suc (length polls) ≤ most_polls s
    pub room : (a : Answer T) → Answers t (poll_of w) a → length names + length a.woken ≤ most_polls s

  pub next_poll : (s t : State T) (polls : List (Settled T)) (names : List Waiter) (n : ℕ) (w : Waiter) → Goes s t (polls_in polls) names
      → n ≡ length polls → slice_get names n ≡ Some w → NextPoll s t polls names w
  next_poll s t polls names n w h count e =
      let same = polls_count polls in
      let front = goes_next s t (polls_in polls) names w h (ap (λ k. slice_get names k) (same ∙ sym count) ∙ e) in
      let left = some_left s t (polls_in polls) names w h front in
      record {
        front = front;
        woken = first_there w t.waiting.woken front;
        left = omega (arith, left, same);
        room = one_more s t (polls_in polls) names w h front;
      }

  pub goes_pushed : (s t : State T) (polls pushed : List (Settled T)) (w : Waiter) (x : Reply T) (names : List Waiter)
      → pushed ≡ polls ++ record { name = w; reply = x } ∷ [] → Goes s t (polls_in polls ++ (w, x) ∷ []) names → Goes s t (polls_in pushed) names
  goes_pushed s t polls pushed w x names e h =
      subst (λ (ps : List (Waiter × Reply T)). Goes s t ps names)
      (sym (ap (λ (ps : List (Settled T)). polls_in ps) e ∙ map-append as_poll polls (record { name = w; reply = x } ∷ []))) h

  -- where all names were polled nobody is woken, and nobody goes on
  pub record Rests (s t : State T) (polls : List (Settled T)) : Type 0 where
    pub settles : Settles s (polls_in polls) t
    pub few : 2 * length polls ≤ pending_count s.waiting * (pending_count s.waiting + 1)
    pub short : length polls ≤ most_polls s
    pub rests : (t.waiting.woken ≡ []) × NobodyGoesOn t

  pub goes_end : (s t : State T) (polls : List (Settled T)) (names : List Waiter) → Goes s t (polls_in polls) names
      → length names ≤ length polls → Rests s t polls
  goes_end s t polls names h done =
      let all = goes_length s t (polls_in polls) names h in
      let same = length-map polls as_poll in
      let settled = settle_ends s t (polls_in polls) h.led (none t.waiting.woken (omega (arith, done, all, same))) in
      let few = settling_ends s t (polls_in polls) h.began h.led in
      let left = h.left in
      record { settles = settled; few = omega (arith, few, same); short = omega (arith, left, same); rests = at_rest s t (polls_in polls) h.began settled }
    where
      none : (ws : List Waiter) → length ws ≤ 0 → ws ≡ []
      none [] e = refl
      none (v ∷ vs) e = absurd (omega (arith, e))
