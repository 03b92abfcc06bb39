-- What an account shows: the world at its beginning, the world at the last that was noted, and the replies that were given between
-- them, in order.
use Rattle.std.specs.Prelude.{◌++◌}
use Rattle.channel_world.specs.Words.{List, [], refl, Coded, code_by, coded_list, coded×, Reply}
use Rattle.channel_world_runs.specs.Reaches.{replies_in}
use Rattle.channel_world.specs.Carried.{replied_in, polls_replied}
use Rattle.channel_world.specs.View.{WorldView}
use Rattle.channel_world.specs.declared.account.Deed.{Deed}
use Rattle.channel_world.specs.declared.account.Past.{Past, Past-F, fold-Past}
use Rattle.channel_world.specs.declared.account.Past.TheOpen as past

pub record AccountView (T : Type 0) : Type 0 where
  pub since : WorldView T
  pub until : WorldView T
  pub replies : List (Reply T)

module _ {T : Type 0} where
  abbrev pub account_of : WorldView T → WorldView T → List (Reply T) → AccountView T
  account_of since until replies = record { since = since; until = until; replies = replies }

  -- views differ where one of the three does
  abbrev pub account_code : Coded (WorldView T) → Coded (Reply T) → Coded (AccountView T)
  account_code world reply =
      code_by (WorldView T × (WorldView T × List (Reply T))) (coded× world (coded× world (coded_list reply)))
      (λ (a : AccountView T). (a.since, (a.until, a.replies))) (λ p. account_of p.0 p.1.0 p.1.1) (λ _. refl)

  -- what was replied in one thing that was done
  abbrev pub replied_by : Deed T → List (Reply T)
  replied_by (Deed.Steps run) = replies_in run.value.trace.items
  replied_by (Deed.Calls run) = replied_in run.value.done.items
  replied_by (Deed.Polls polls) = polls_replied polls.value.items

  -- and in all of them
  abbrev and_then : Past-F T (List (Reply T)) → List (Reply T)
  and_then past.Nothing = []
  and_then (past.Then before deed) = before.value ++ replied_by deed

  abbrev pub replied_so_far : Past T → List (Reply T)
  replied_so_far p = fold-Past T (List (Reply T)) and_then p
