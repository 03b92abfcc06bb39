-- An account goes on as the world does.
use Rattle.std.specs.Prelude.{◌≡◌, ◌++◌}
use Rattle.channel_world.proofs.Lemmas.{rules, List, [], sym, ap, subst, ◌∙◌, Snapshot, Reply, leads_nowhere, leads_on, AccountView, account_of, replied_by, replied_so_far, LeadsTo, WorldView, Past, Then, the_lemmas, world_state_of}
use Rattle.channel_world.specs.declared.account.Deed.{Deed}
use Rattle.channel_world.specs.declared.account.Past.{Nothing}

module _ {T : Type 0} where
  replied_at_first : replied_so_far {T = T} Nothing ≡ []
  replied_at_first = Prim.search (the_lemmas, rules)

  replied_then : (before : Snapshot (Past T)) (deed : Deed T) → replied_so_far (Then before deed) ≡ replied_so_far before.value ++ replied_by deed
  replied_then before deed = Prim.search (the_lemmas, rules)

  -- from this world, with no reply yet
  pub begun : (world since until : WorldView T) (past : Past T) → since ≡ world → until ≡ world → past ≡ Nothing
      → LeadsTo since (replied_so_far past) until
  begun world since until past e f none =
      subst (λ (rs : List (Reply T)). LeadsTo since rs until) (sym (ap replied_so_far none ∙ replied_at_first))
      (subst (λ (w : WorldView T). LeadsTo since [] w) (e ∙ sym f) (record { on = leads_nowhere (world_state_of since) }))

  -- this was done after all before it
  pub gone_on : (since until now last : WorldView T) (past : Past T) (before : Snapshot (Past T)) (deed : Deed T) (a : AccountView T)
      → LeadsTo since (replied_so_far before.value) until → account_of since until (replied_so_far before.value) ≡ a
      → LeadsTo a.until (replied_by deed) now → past ≡ Then before deed → last ≡ now
      → LeadsTo since (replied_so_far past) last
  gone_on since until now last past before deed a led view leads e f =
      let more : LeadsTo until (replied_by deed) now = subst (λ (x : AccountView T). LeadsTo x.until (replied_by deed) now) (sym view) leads in
      subst (λ (w : WorldView T). LeadsTo since (replied_so_far past) w) (sym f)
      (subst (λ (rs : List (Reply T)). LeadsTo since rs now) (sym (ap replied_so_far e ∙ replied_then before deed))
      (record { on = leads_on (world_state_of since) (world_state_of until) (world_state_of now) (replied_so_far before.value) (replied_by deed) led.on more.on }))
