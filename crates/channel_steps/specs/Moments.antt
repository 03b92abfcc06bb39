-- The moments and the marks of one call.
use Rattle.std.specs.Prelude.{◌≡◌, ℕ, ◌<◌, ◌≤◌, ◌==◌, Bool, true, false, List, [], ◌∷◌, ◌++◌, length, Option, None, Some, ◌⊎◌}
use Rattle.concurrent_queue.specs.Queue.{is_filled, IsOpen, IsShut, IsDrained, IsOldest}
use Rattle.channel_calls.specs.Marks.{up, down}
use Rattle.channel_calls.specs.Moves.{Channel}
use Rattle.channel_calls.specs.Parts.{count}
use Rattle.channel_calls.specs.Turns.{most}
use Rattle.channel_calls.specs.declared.mark.Mark.{Mark}
use Rattle.channel_calls.specs.declared.mark.Mark.TheVariants.{Nothing, Append, Take, TakeDisplaced, Replace, Close}
use Rattle.channel_calls.specs.declared.stage.Side.{Side}

-- one mark of a call, with the moment just before it, and the call's moments up to that one, newest first
pub record MarkedMoment (T W : Type 0) : Type 0 where
  pub mark : Mark
  pub before : Channel T W
  pub seen : List (Channel T W)

module _ {T W : Type 0} where
  -- the marks of a call after a step over the channel c
  abbrev pub with_marked : List (MarkedMoment T W) → Mark → Channel T W → List (Channel T W) → List (MarkedMoment T W)
  with_marked ds Nothing c seen = ds
  with_marked ds m c seen = ds ++ record { mark = m; before = c; seen = seen } ∷ []

  -- ---- what may hold at a moment

  abbrev pub Open : Channel T W → Type 0
  Open c = IsOpen c.queue

  abbrev pub Shut : Channel T W → Type 0
  Shut c = IsShut c.queue

  abbrev pub HasRoom : Channel T W → Type 0
  HasRoom c = is_filled c.queue ≡ false

  -- open and full
  abbrev pub Crowded : Channel T W → Type 0
  Crowded c = IsOpen c.queue × (is_filled c.queue ≡ true)

  -- with nothing there and nothing on its way
  abbrev pub Drained : Channel T W → Type 0
  Drained c = IsDrained c.queue

  -- open, with nothing there and nothing on its way
  abbrev pub Bare : Channel T W → Type 0
  Bare c = IsOpen c.queue × IsDrained c.queue

  -- closed, with nothing there and nothing on its way
  abbrev pub Spent : Channel T W → Type 0
  Spent c = IsShut c.queue × IsDrained c.queue

  -- open, with no bound
  abbrev pub Unbounded : Channel T W → Type 0
  Unbounded c = IsOpen c.queue × (c.queue.capacity ≡ None)

  -- open, and one that might refuse a message: with this capacity a full one, with no bound any
  abbrev pub Refuses : Option ℕ → Channel T W → Type 0
  Refuses None c = Unbounded c
  Refuses (Some n) c = Crowded c

  abbrev pub is_empty : Channel T W → Bool
  is_empty c = length c.queue.items == 0

  abbrev pub HasMessage : Channel T W → Type 0
  HasMessage c = is_empty c ≡ false

  -- more handles of this kind than may be raised
  abbrev pub TooManyOf : Side → Channel T W → Type 0
  TooManyOf side c = most < count side c.wait_lists

  -- ---- at which moments of a call; the newest stands first

  -- it held at one of them
  abbrev pub Once : (Channel T W → Type 0) → List (Channel T W) → Type 0
  Once P [] = ⊥
  Once P (c ∷ cs) = P c ⊎ Once P cs

  -- the second held at one of them, and the first at that one or before it
  abbrev pub Since : (Channel T W → Type 0) → (Channel T W → Type 0) → List (Channel T W) → Type 0
  Since P Q [] = ⊥
  Since P Q (c ∷ cs) = (Q c × Once P (c ∷ cs)) ⊎ Since P Q cs

  -- it held at one of them after this deed
  abbrev pub OnceBehind : (Channel T W → Type 0) → MarkedMoment T W → List (Channel T W) → Type 0
  OnceBehind P d seen = (newer : List (Channel T W)) × (seen ≡ newer ++ d.seen) × Once P newer

  -- ---- all the marks of a call

  -- a message was appended to an open channel with room
  abbrev pub Appended : List (MarkedMoment T W) → Type 0
  Appended (d ∷ []) = (d.mark ≡ Append) × Open d.before × HasRoom d.before
  Appended _ = ⊥

  -- the oldest message was taken
  abbrev pub Took : List (MarkedMoment T W) → T → Type 0
  Took (d ∷ []) v = (d.mark ≡ Take) × IsOldest v d.before.queue
  Took _ v = ⊥

  -- these were the oldest ones, and were taken one after another
  abbrev pub TookAll : List (MarkedMoment T W) → List T → Type 0
  TookAll [] [] = Unit {0}
  TookAll (d ∷ ds) (v ∷ vs) = (d.mark ≡ Take) × IsOldest v d.before.queue × TookAll ds vs
  TookAll _ vs = ⊥

  -- at a moment after the last of these marks there was nothing, and nothing on its way
  abbrev pub RanOut : List (MarkedMoment T W) → List (Channel T W) → Type 0
  RanOut [] seen = ⊥
  RanOut (d ∷ []) seen = OnceBehind (λ c. IsDrained c.queue) d seen
  RanOut (d ∷ e ∷ ds) seen = RanOut (e ∷ ds) seen

  -- the message of a full open channel of capacity one was replaced
  abbrev pub Replaced : List (MarkedMoment T W) → T → Type 0
  Replaced (d ∷ []) v = (d.mark ≡ Replace) × Crowded d.before × IsOldest v d.before.queue × (d.before.queue.capacity ≡ Some 1)
  Replaced _ v = ⊥

  -- the oldest message of a full channel of a capacity above one was taken to make room, when no other was on its way; it was
  -- open not later
  abbrev pub MadeRoom : List (MarkedMoment T W) → T → Type 0
  MadeRoom (d ∷ []) v =
      (d.mark ≡ TakeDisplaced) × (is_filled d.before.queue ≡ true) × (d.before.queue.coming ≡ false) × IsOldest v d.before.queue × Once Open (d.before ∷ d.seen) × (d.before.queue.capacity ≡ Some 1 → ⊥)
  MadeRoom _ v = ⊥

  -- and at a later step the message was appended: the place that was made was still free, so no other send took it
  abbrev pub Displaced : List (MarkedMoment T W) → T → Type 0
  Displaced (d ∷ e ∷ []) v = MadeRoom (d ∷ []) v × (e.mark ≡ Append) × HasRoom e.before
  Displaced _ v = ⊥

  -- an open channel was closed
  abbrev pub ClosedIt : List (MarkedMoment T W) → Type 0
  ClosedIt (d ∷ []) = (d.mark ≡ Close) × Open d.before
  ClosedIt _ = ⊥

  -- there is one more handle of this kind, and there were not too many
  abbrev pub CountRaised : Side → List (MarkedMoment T W) → Type 0
  CountRaised side (d ∷ []) = (d.mark ≡ up side) × (count side d.before.wait_lists ≤ most)
  CountRaised side _ = ⊥

  -- and at least one, after a moment at which the channel was open
  abbrev pub Upgraded : Side → List (MarkedMoment T W) → Type 0
  Upgraded side (d ∷ []) = (d.mark ≡ up side) × (0 < count side d.before.wait_lists) × (count side d.before.wait_lists ≤ most) × Once Open d.seen
  Upgraded side _ = ⊥

  -- the last handle of this kind is gone
  abbrev pub LeftLast : Side → List (MarkedMoment T W) → List (Channel T W) → Type 0
  LeftLast side (d ∷ []) seen = (d.mark ≡ down side) × (count side d.before.wait_lists ≡ 1) × (newer : List (Channel T W)) × (seen ≡ newer ++ d.seen)
  LeftLast side _ seen = ⊥

  -- one handle of this kind is gone; if it was the last one, the channel was closed next, or was closed then
  abbrev pub Dropped : Side → List (MarkedMoment T W) → List (Channel T W) → Type 0
  Dropped side (d ∷ []) seen = (d.mark ≡ down side) × ((count side d.before.wait_lists ≡ 1 → ⊥) ⊎ OnceBehind Shut d seen)
  Dropped side (d ∷ e ∷ []) seen = (d.mark ≡ down side) × (count side d.before.wait_lists ≡ 1) × (e.mark ≡ Close) × Open e.before
  Dropped side _ seen = ⊥
