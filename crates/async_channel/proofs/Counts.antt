-- What a clone and an upgrade did, by what they answer.
use Rattle.std.proofs.Common.{◌≡◌, Option, None, Some, Result, Ok, Err, refl, sym, subst}
use Rattle.std.specs.Prelude.{IfErr}
use Rattle.channel_calls.specs.Asks.{first}
use Rattle.channel_calls.specs.Calls.{made_answer, upgraded_answer}
use Rattle.channel_calls.specs.Deeds.{Deed}
use Rattle.channel_calls.specs.Walks.{WalkedTo}
use Rattle.channel_calls.specs.declared.ask.ChannelAsk.TheVariants.{CloneHandle, Upgrade}
use Rattle.channel_calls.specs.declared.error.HandleError.{HandleError}
use Rattle.channel_calls.specs.declared.error.HandleError.TheVariants.{NoMemory, TooMany}
use Rattle.channel_calls.specs.declared.reply.Reply.{Reply}
use Rattle.channel_calls.specs.declared.reply.Reply.TheVariants as reply
use Rattle.channel_calls.specs.declared.stage.Side.{Side}
use Rattle.async_channel.specs.Counts.{CloneRefused, UpgradeRefused, Clones, Upgrades}

module _ {T : Type 0} where
  -- only by this reply is a handle given
  is_made : (r : Reply T) (u : Unit {0}) → Ok u ≡ made_answer r → r ≡ reply.Made
  is_made reply.Made u e = cc
  is_made (reply.TrySend z) u e = cc
  is_made (reply.ForceSend z) u e = cc
  is_made (reply.TryRecv z) u e = cc
  is_made (reply.RecvMany z) u e = cc
  is_made (reply.SendPoll z) u e = cc
  is_made (reply.RecvPoll z) u e = cc
  is_made (reply.ClosedPoll z) u e = cc
  is_made (reply.Next z) u e = cc
  is_made (reply.Closed z) u e = cc
  is_made (reply.Flag z) u e = cc
  is_made (reply.Count z) u e = cc
  is_made (reply.Cap z) u e = cc
  is_made reply.NotMade u e = cc
  is_made reply.TooMany u e = cc
  is_made (reply.GivenUp z) u e = cc
  is_made reply.Unit u e = cc

  is_made_of_weak : (r : Reply T) (u : Unit {0}) → Ok (Some u) ≡ upgraded_answer r → r ≡ reply.Made
  is_made_of_weak reply.Made u e = cc
  is_made_of_weak (reply.TrySend z) u e = cc
  is_made_of_weak (reply.ForceSend z) u e = cc
  is_made_of_weak (reply.TryRecv z) u e = cc
  is_made_of_weak (reply.RecvMany z) u e = cc
  is_made_of_weak (reply.SendPoll z) u e = cc
  is_made_of_weak (reply.RecvPoll z) u e = cc
  is_made_of_weak (reply.ClosedPoll z) u e = cc
  is_made_of_weak (reply.Next z) u e = cc
  is_made_of_weak (reply.Closed z) u e = cc
  is_made_of_weak (reply.Flag z) u e = cc
  is_made_of_weak (reply.Count z) u e = cc
  is_made_of_weak (reply.Cap z) u e = cc
  is_made_of_weak reply.NotMade u e = cc
  is_made_of_weak reply.TooMany u e = cc
  is_made_of_weak (reply.GivenUp z) u e = cc
  is_made_of_weak reply.Unit u e = cc

  -- and only by this one none is, without a refusal
  is_not_made : (r : Reply T) → Ok None ≡ upgraded_answer r → r ≡ reply.NotMade
  is_not_made reply.NotMade e = cc
  is_not_made reply.Made e = cc
  is_not_made (reply.TrySend z) e = cc
  is_not_made (reply.ForceSend z) e = cc
  is_not_made (reply.TryRecv z) e = cc
  is_not_made (reply.RecvMany z) e = cc
  is_not_made (reply.SendPoll z) e = cc
  is_not_made (reply.RecvPoll z) e = cc
  is_not_made (reply.ClosedPoll z) e = cc
  is_not_made (reply.Next z) e = cc
  is_not_made (reply.Closed z) e = cc
  is_not_made (reply.Flag z) e = cc
  is_not_made (reply.Count z) e = cc
  is_not_made (reply.Cap z) e = cc
  is_not_made reply.TooMany e = cc
  is_not_made (reply.GivenUp z) e = cc
  is_not_made reply.Unit e = cc

module _ {T W X : Type 0} (did : Deed T W → X → X → Type 0) (side : Side) (s t : X) (r : Reply T) where
  cloned : (u : Unit {0}) → WalkedTo did (first (CloneHandle side)) s r t → Ok u ≡ made_answer r → WalkedTo did (first (CloneHandle side)) s reply.Made t
  cloned u walked e = subst (λ (z : Reply T). WalkedTo did (first (CloneHandle side)) s z t) (is_made r u e) walked

  clone_refused : (e : HandleError) → e ≡ TooMany → WalkedTo did (first (CloneHandle side)) s r t → Err e ≡ made_answer r → CloneRefused did side s e t
  clone_refused TooMany reason walked is = (r, sym is, walked)
  clone_refused NoMemory reason walked is = absurd (let never : NoMemory ≡ TooMany = reason in cc)

  upgraded : (o : Option (Unit {0})) (u : Unit {0}) → o ≡ Some u → WalkedTo did (first (Upgrade side)) s r t → Ok o ≡ upgraded_answer r → WalkedTo did (first (Upgrade side)) s reply.Made t
  upgraded o u is walked e =
      subst (λ (z : Reply T). WalkedTo did (first (Upgrade side)) s z t) (is_made_of_weak r u (subst (λ (z : Option (Unit {0})). Ok z ≡ upgraded_answer r) is e)) walked

  not_upgraded : (o : Option (Unit {0})) → o ≡ None → WalkedTo did (first (Upgrade side)) s r t → Ok o ≡ upgraded_answer r → WalkedTo did (first (Upgrade side)) s reply.NotMade t
  not_upgraded o is walked e =
      subst (λ (z : Reply T). WalkedTo did (first (Upgrade side)) s z t) (is_not_made r (subst (λ (z : Option (Unit {0})). Ok z ≡ upgraded_answer r) is e)) walked

  upgrade_refused : (e : HandleError) → e ≡ TooMany → WalkedTo did (first (Upgrade side)) s r t → Err e ≡ upgraded_answer r → UpgradeRefused did side s e t
  upgrade_refused TooMany reason walked is = (r, sym is, walked)
  upgrade_refused NoMemory reason walked is = absurd (let never : NoMemory ≡ TooMany = reason in cc)

  -- whatever it answers
  pub clones : (o : Result (Unit {0}) HandleError) → IfErr o (λ e. e ≡ TooMany) → WalkedTo did (first (CloneHandle side)) s r t → o ≡ made_answer r → Clones did side s o t
  clones (Ok u) reason walked is = cloned u walked is
  clones (Err e) reason walked is = clone_refused e reason walked is

  pub upgrades : (o : Result (Option (Unit {0})) HandleError) → IfErr o (λ e. e ≡ TooMany) → WalkedTo did (first (Upgrade side)) s r t → o ≡ upgraded_answer r → Upgrades did side s o t
  upgrades (Ok (Some u)) reason walked is = upgraded (Some u) u refl walked is
  upgrades (Ok None) reason walked is = not_upgraded None refl walked is
  upgrades (Err e) reason walked is = upgrade_refused e reason walked is
