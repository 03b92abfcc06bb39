-- What a step may do to a closed channel.
use Rattle.std.proofs.Common.{◌≡◌, true, false, List, [], ◌∷◌, Option, ⊎_elim, refl, sym, ◌∙◌, subst}
use Rattle.channel_steps.proofs.every_run.Words.{Queue, Phase, IsOpen, IsShut, IsDrained, IsOldest, is_displaced, QueueAsk, QueueMark, Nothing, Channel, Effect, Moves, Reply, Stage, Spent, IsStill, after, mark_of_queue}
use Rattle.concurrent_queue.specs.Queue as queue
use Rattle.concurrent_queue.specs.declared.call.QueueMark.TheVariants.{Append, Take, TakeDisplaced, Replace, Close}
use Rattle.channel_steps.proofs.QueueFacts.{Says, moves_by}

module _ {T : Type 0} where
  -- ---- the queue's call

  -- what a call at this stage may do to the closed queue q
  abbrev pub MayMark : QueueMark → queue.Stage T → Queue T → Type 0
  MayMark Nothing s q = Unit {0}
  MayMark Append s q = (q.coming ≡ true) × (is_displaced s ≡ true)
  MayMark Take s q = (v : T) × IsOldest v q
  MayMark TakeDisplaced s q = (v : T) × IsOldest v q × (q.coming ≡ false)
  MayMark Replace s q = ⊥
  MayMark Close s q = ⊥

  module _ (q : Queue T) (shut : IsShut q) where
    not_open : IsOpen q → ⊥
    not_open e = absurd (let no : true ≡ false = sym shut ∙ e in cc)

    pub may : (a : QueueAsk T) (s : queue.Stage T) (m : QueueMark) → Says a s m q → MayMark m s q
    may a s Nothing h = tt
    may a s Append h = ⊎_elim (λ was. absurd (not_open was)) (λ k. k) h.2
    may a s Take h = h
    may a s TakeDisplaced h = (h.0.0, h.0.1, h.2)
    may a s Replace h = absurd (not_open h.3)
    may a s Close h = absurd (not_open h)

  drained_nothing : (q : Queue T) (m : QueueMark) (s : queue.Stage T) → IsDrained q → MayMark m s q → m ≡ Nothing
  drained_nothing q Nothing s d h = refl
  drained_nothing q Append s d h = absurd (let no : true ≡ false = sym h.0 ∙ d.1 in cc)
  drained_nothing q Take s d (v, (rest, e)) = absurd (let no : [] ≡ v ∷ rest = sym d.0 ∙ e in cc)
  drained_nothing q TakeDisplaced s d h = absurd (let rest : List T = h.1.0 in let v : T = h.0 in let no : [] ≡ v ∷ rest = sym d.0 ∙ h.1.1 in cc)
  drained_nothing q x s d h = absurd h

module _ {T W : Type 0} where
  -- where the channel is over nothing moves
  pub over_spares : (c : Channel T W) (at : Stage (Phase T) T W) (e : Effect T W) (r : Option (Reply T)) (s : Stage (Phase T) T W) → Spent c → Moves c at e r s
      → (e.channel.queue ≡ c.queue) × IsStill e.mark
  over_spares c at e r s over h =
      moves_by c at (λ m q. (q ≡ c.queue) × IsStill m)
      (λ f y m is says.
      let none : m ≡ Nothing = drained_nothing c.queue m f.stage over.1 (may c.queue over.0 f.ask f.stage m says) in
      subst (λ (z : QueueMark). (after f z c.queue ≡ c.queue) × IsStill (mark_of_queue z)) (sym none) (refl, tt))
      (λ m still. (refl, still)) e r s h
