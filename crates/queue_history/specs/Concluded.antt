-- What a client concludes from what is left of parties whose calls were answered.
use Rattle.std.specs.Prelude.{◌≡◌, ◌⊎◌, ℕ, ◌+◌, List, [], ◌∷◌, ◌++◌, length, None, Some}
use Rattle.concurrent_queue.specs.Bridge.{IsRunOf}
use Rattle.concurrent_queue.specs.Capacity.{capacity_of}
use Rattle.concurrent_queue.specs.Contents.{Contents}
use Rattle.concurrent_queue.specs.Run.{IsCounted}
use Rattle.concurrent_queue.specs.Step.{length_in, counted_in}
use Rattle.concurrent_queue.specs.declared.cells.QueueForm.{QueueForm}
use Rattle.queue_history.specs.Accounted.{messages, of_party, pushed, popped, Accounts}
use Rattle.concurrent_queue.specs.history.Joined.{Lists, EachOnce}
use Rattle.concurrent_queue.specs.history.Runs.{standing_of, IsQueueHistory}
use Rattle.concurrent_queue.specs.declared.history.party.Standing.{Standing}
use Rattle.concurrent_queue.specs.declared.history.rule.View.{View}

module _ {T : Type 0} where
  -- the one has asked and was answered what the other has
  abbrev pub IsLike : Standing T → Standing T → Type 0
  IsLike s t = (s.asked ≡ t.asked) × (s.replies ≡ t.replies)

  -- these parties have asked, and were answered, what they say
  abbrev pub AllStand : (ℕ → Standing T) → List (ℕ × Standing T) → Type 0
  AllStand at [] = Unit {0}
  AllStand at (x ∷ ps) = IsLike (at x.0) x.1 × AllStand at ps

  -- all calls of a party were answered: none is under way, or there are as many answers as questions
  abbrev pub IsAnswered : Standing T → Type 0
  IsAnswered s = (s.call ≡ None) ⊎ (length s.asked ≡ length s.replies)

  abbrev pub AllAnswered : (ℕ → Standing T) → List (ℕ × Standing T) → Type 0
  AllAnswered at [] = Unit {0}
  AllAnswered at (x ∷ ps) = IsAnswered (at x.0) × AllAnswered at ps

  -- each of these parties has as many answers as questions
  abbrev pub AllReplied : List (ℕ × Standing T) → Type 0
  AllReplied [] = Unit {0}
  AllReplied (x ∷ ps) = (length x.1.asked ≡ length x.1.replies) × AllReplied ps

  -- how many messages the answered calls of these parties brought, and how many they took
  abbrev pub pushed_count : List (ℕ × Standing T) → ℕ
  pushed_count [] = 0
  pushed_count (x ∷ ps) = length (pushed x.1) + pushed_count ps

  abbrev pub popped_count : List (ℕ × Standing T) → ℕ
  popped_count [] = 0
  popped_count (x ∷ ps) = length (popped x.1) + popped_count ps

  -- each of these messages is of one of these parties
  abbrev pub AreOf : List (ℕ × Standing T) → List (ℕ × T) → Type 0
  AreOf ps [] = Unit {0}
  AreOf ps (x ∷ xs) = Lists x.0 ps × AreOf ps xs

  -- of what was accepted each party's messages are those that it pushed, in its order, and of what has left those that it popped
  abbrev pub AllAccounted : List (ℕ × Standing T) → (accepted gone : List (ℕ × T)) → Type 0
  AllAccounted [] accepted gone = Unit {0}
  AllAccounted (x ∷ ps) accepted gone = (of_party x.0 accepted ≡ pushed x.1) × (of_party x.0 gone ≡ popped x.1) × AllAccounted ps accepted gone

-- if as many messages were accepted as these parties pushed, nothing else was accepted. And if as many have left as they popped,
-- nothing else has left
abbrev pub NothingElse : Type 0 → Type 0
NothingElse T =
    (form : QueueForm) (at : ℕ → Standing T) (c : Contents T) (a : Accounts form at c) (ps : List (ℕ × Standing T)) → AllStand at ps → EachOnce ps
    → (length a.accepted ≡ pushed_count ps → AreOf ps a.accepted) × (length a.gone ≡ popped_count ps → AreOf ps a.gone)

module _ {T : Type 0} where
  -- what these parties conclude, which have answers to all their calls. Of no other party anything is known
  pub record Concluded (form : QueueForm) (c : Contents T) (ps : List (ℕ × Standing T)) : Type 0 where
    pub accepted : List (ℕ × T)
    pub gone : List (ℕ × T)
    pub held : List T
    pub in_order : messages gone ++ held ≡ messages accepted
    pub each : AllAccounted ps accepted gone
    pub nothing_else : length accepted ≡ pushed_count ps → AreOf ps accepted
    pub nobody_else : length gone ≡ popped_count ps → AreOf ps gone
    pub long : length_in c ≡ length held
    pub counted : (capacity_of form ≡ Some 1) ⊎ (counted_in c ≡ length accepted)

  -- two parties that pushed, and one that popped. If as many messages were accepted as the two pushed, nothing else was accepted. Where
  -- as many were accepted as the one popped and are held, what it popped, followed by what is held, is what was accepted
  pub record TwoPushedOnePopped (form : QueueForm) (c : Contents T) (one other popper : ℕ × Standing T) : Type 0 where
    pub accepted : List (ℕ × T)
    pub gone : List (ℕ × T)
    pub held : List T
    pub in_order : messages gone ++ held ≡ messages accepted
    pub of_one : of_party one.0 accepted ≡ pushed one.1
    pub of_other : of_party other.0 accepted ≡ pushed other.1
    pub by_popper : of_party popper.0 gone ≡ popped popper.1
    pub nothing_else : length accepted ≡ length (pushed one.1) + length (pushed other.1) → AreOf (one ∷ other ∷ []) accepted
    pub nobody_else : length accepted ≡ length (popped popper.1) + length held → popped popper.1 ++ held ≡ messages accepted
    pub long : length_in c ≡ length held
    pub counted : (capacity_of form ≡ Some 1) ⊎ (counted_in c ≡ length accepted)

  -- there is one history of a queue's cells, which is a run of the queue. In it these parties have asked and were answered what they say,
  -- and all their calls were answered
  pub record InOneHistory (form : QueueForm) (ps : List (ℕ × Standing T)) : Type 0 where
    pub views : List (View T (Standing T))
    pub cells : Contents T
    pub history : IsQueueHistory form views cells
    pub run : IsRunOf form history.events (λ p. (standing_of views p).replies) cells
    pub stand : AllStand (λ p. standing_of views p) ps
    pub once : EachOnce ps
    pub answered : AllAnswered (λ p. standing_of views p) ps

  -- if no more messages were accepted in it than there are positions, they conclude so
  pub record HaveConcluded (form : QueueForm) (ps : List (ℕ × Standing T)) : Type 0 where
    pub found : InOneHistory form ps
    pub so : IsCounted form found.run.trace → Concluded form found.cells ps

  pub record ThreeHaveConcluded (form : QueueForm) (one other popper : ℕ × Standing T) : Type 0 where
    pub found : InOneHistory form (one ∷ other ∷ popper ∷ [])
    pub so : IsCounted form found.run.trace → TwoPushedOnePopped form found.cells one other popper

  abbrev pub party : View T (Standing T) → ℕ × Standing T
  party v = (v.who, v.state)

abbrev pub PartiesConclude : Type 0 → Type 0
PartiesConclude T = (form : QueueForm) (ps : List (ℕ × Standing T)) → InOneHistory form ps → HaveConcluded form ps

abbrev pub ThreePartiesConclude : Type 0 → Type 0
ThreePartiesConclude T = (form : QueueForm) (one other popper : ℕ × Standing T) → InOneHistory form (one ∷ other ∷ popper ∷ []) → ThreeHaveConcluded form one other popper
