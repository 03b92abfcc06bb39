-- Ways: of no step, one after another, of a run by names, and of a call made alone.
use Rattle.std.specs.Prelude.{◌≡◌, ◌∷◌, ◌++◌}
use Rattle.channel_world_runs.proofs.Words.{ℕ, List, [], Option, None, refl, sym, ap, ◌∙◌, append_assoc, option_to_list, Outcome, EndsWith, LoneRun, steps_by, ChannelAsk, Reply, Returned, Waiter, IsRun, NextConfiguration, Configuration, ChannelEntry, run_none, run_on, run_so, LeadsOn, channel_step, Moment, LeadsBy, RanTo, moment_of, Reaches, replies_of, replies_in, WorldState, Entry, Step, ChannelStep}
use Rattle.channel_calls.specs.declared.mark.Mark.TheVariants.{Nothing}

module _ {T : Type 0} where
  pub no_way : (s : Configuration T Waiter) → Reaches s [] s
  no_way s = record { steps = []; trace = []; run = run_none NextConfiguration s; given = refl }

  said_on : (es fs : List (ChannelEntry T)) → replies_of (es ++ fs) ≡ replies_of es ++ replies_of fs
  said_on [] fs = refl
  said_on (e ∷ es) fs =
      ap (λ (rs : List (Reply T)). option_to_list e.reply ++ rs) (said_on es fs)
      ∙ sym (append_assoc (option_to_list e.reply) (replies_of es) (replies_of fs))

  -- one way after another
  pub ways_on : (s m t : Configuration T Waiter) (rs ss : List (Reply T)) → Reaches s rs m → Reaches m ss t → Reaches s (rs ++ ss) t
  ways_on s m t rs ss a b = record {
    steps = a.steps ++ b.steps;
    trace = a.trace ++ b.trace;
    run = run_on NextConfiguration s m t a.steps b.steps a.trace b.trace a.run b.run;
    given = said_on a.trace b.trace
        ∙ (ap (λ (xs : List (Reply T)). xs ++ replies_of b.trace) a.given ∙ ap (λ (ys : List (Reply T)). rs ++ ys) b.given);
  }

  -- ---- a run by names

  run_way : (m : Moment T) (xs : List (Step T)) (es : List (Entry T)) (n : Moment T) → IsRun LeadsBy m xs es n
      → Reaches m.configuration (replies_in es) n.configuration
  run_way m xs es n run =
      run_so LeadsBy (λ a xs es b. Reaches a.configuration (replies_in es) b.configuration) (λ a. no_way a.configuration)
      (λ a x e b xs es c by rest. record {
        steps = channel_step a.name_state.name_table x ∷ rest.steps;
        trace = record { mark = e.mark; reply = e.reply; kept = by.made.kept } ∷ rest.trace;
        run = record {
          moments = b.configuration ∷ rest.run.moments;
          each = ((e.woken.items, by.made.next), rest.run.each);
          ends = rest.run.ends;
        };
        given = ap (λ (rs : List (Reply T)). option_to_list e.reply ++ rs) rest.given;
      }) m xs es n run

  -- it leads on
  pub ran_leads : (steps left : List (Step T)) (old : WorldState T) (trace : List (Entry T)) (new : WorldState T) → RanTo steps left old trace new
      → LeadsOn old (replies_in trace) new
  ran_leads steps left old trace new ran s k =
      let r = ran s k in
      record {
        last = r.last;
        way = run_way (moment_of old s) r.made trace (moment_of new r.last) r.run;
        stands = r.stands;
        accounts = r.accounts;
      }

  -- ---- a call made alone

  ends_saying : (es : List (ChannelEntry T)) (x : Reply T) (k : Returned T) → EndsWith x k es → replies_of es ≡ x ∷ []
  ends_saying [] x k h = absurd h
  ends_saying (e ∷ []) x k h = ap (λ (o : Option (Reply T)). option_to_list o ++ []) h.0
  ends_saying (e ∷ f ∷ es) x k h =
      ap (λ (o : Option (Reply T)). option_to_list o ++ replies_of (f ∷ es)) h.0 ∙ ends_saying (f ∷ es) x k h.2

  pub lone_way : (s t : Configuration T Waiter) (p : ℕ) (a : ChannelAsk T Waiter) (o : Outcome T Waiter) → LoneRun s p a o t
      → Reaches s (o.reply ∷ []) t
  lone_way s t p a o r =
      record {
        steps = ChannelStep.Begin p a ∷ steps_by p r.entries;
        trace = record { mark = Nothing; reply = None; kept = None } ∷ r.entries;
        run = record { moments = r.begun ∷ r.run.moments; each = (([], (r.begins, refl)), r.run.each); ends = r.run.ends };
        given = ends_saying r.entries o.reply o.kept r.ends;
      }
