-- That a channel is at its end of which a party was told so.
use Rattle.std.proofs.Common.{◌≡◌, ◌∙◌, ℕ, zero, suc, List, [], ◌∷◌, ◌++◌, sym, ap, append-nil}
use mathlib.Core.Option as home
use mathlib.Core.Option.{some, some-ne-none}
use lib.ListN.{get_elem?}
use Rattle.concurrent_queue.specs.declared.history.rule.View.{View}
use Rattle.channel_history.specs.Machine.{states}
use Rattle.channel_history.specs.Party.{fresh, standing_of}
use Rattle.channel_history.specs.Says.{configuration_of}
use Rattle.channel_history.specs.declared.party.Standing.{Standing}
use Rattle.channel_cells.specs.Look.{IsTold}
use Rattle.channel_cells.specs.Over.{IsOver, WasToldTheEnd}

module _ {T W : Type 0} where
  abbrev state_in : home.Option (View T (Standing T W)) → Standing T W
  state_in (home.some v) = v.state
  state_in home.none = fresh

  -- a party stands where its view says
  stands_there : (views : List (View T (Standing T W))) (p : ℕ) (v : View T (Standing T W)) → get_elem? views p ≡ some v → standing_of (states views) p ≡ v.state
  stands_there [] p v e = absurd (some-ne-none v (sym e))
  stands_there (x ∷ xs) zero v e = ap state_in e
  stands_there (x ∷ xs) (suc p) v e = stands_there xs p v e

  pub is_over : (v : View T (Standing T W)) → IsTold v → WasToldTheEnd v.state → IsOver v
  is_over v told end = record {
    told = told;
    over = λ lasts.
        let run = told.run lasts in
        let moment = run.moment in
        let given : (standing_of (states told.views) v.who).given ≡ end.earlier ++ end.completed ∷ end.later = ap (λ (s : Standing T W). s.given) (stands_there told.views v.who v told.here) ∙ end.given in
        let spent = moment.over v.who end.earlier end.later end.completed given end.end in
        let s = configuration_of v.form (states told.views) told.cells told.senders told.receivers told.history run.says in
        record {
          spent = spent;
          all_taken = sym moment.in_order ∙ (ap (λ (items : List T). s.gone ++ items) spent.1.0 ∙ append-nil s.gone);
          owed = λ line key w none. moment.closing line key spent.0 w none;
        };
  }
