use Rattle.std.proofs.Common.{◌≡◌, Bool, true, false, nat_lt, refl, sym, ◌∙◌, subst}
use Rattle.channel_calls.proofs.Counting.{too_many, made, again}
use Rattle.channel_calls.specs.Deeds.{Done, raised}
use Rattle.channel_calls.specs.Turns.{most}
use Rattle.channel_calls.specs.Walks.{WalkedTo}
use Rattle.channel_calls.specs.declared.reply.Reply.TheVariants.{TooMany, Made}
use Rattle.channel_calls.specs.declared.stage.Making.TheVariants.{Clone}
use Rattle.channel_calls.specs.declared.stage.Side.{Side}
use Rattle.channel_calls.specs.declared.stage.NextStep.TheVariants.{Works}
use Rattle.channel_calls.specs.declared.stage.ListStep.TheVariants.{Load}
use Rattle.channel_calls.specs.declared.stage.Stage.TheVariants.{Working}
use Rattle.channel_calls.proofs.Standing as standing
use Rattle.channel_calls.proofs.raised.clone_handle.Goals as goal

pub returns-then-is_too_many-clause-deeds : goal.returns-then-is_too_many-clause-deeds
returns-then-is_too_many-clause-deeds g c =
    let did = Done g.C.ChannelCells.did g.S.Wakes.wakes in
    let s : g.row.C.Denot × g.row.S.Denot = (c.args.cells.now, c.args.sink.now) in
    let t : g.row.C.Denot × g.row.S.Denot = (c.count-count.new.self, c.args.sink.now) in
    let over : nat_lt most c.count-count.result ≡ true = sym c.is_too_many.ensures ∙ c.if-is_too_many.true in
    let walked = too_many did c.side-side.result c.count-count.result s t (c.count-count.ensures.deed, refl) over in
    (TooMany, subst (λ (side : Side). WalkedTo did (Works (Load side Clone)) s TooMany t) c.side-side.ensures walked, refl)

pub returns-then-raise-clause-deeds : goal.returns-then-raise-clause-deeds
returns-then-raise-clause-deeds g c =
    let did = Done g.C.ChannelCells.did g.S.Wakes.wakes in
    let s : g.row.C.Denot × g.row.S.Denot = (c.args.cells.now, c.args.sink.now) in
    let x : g.row.C.Denot × g.row.S.Denot = (c.count-count.new.self, c.args.sink.now) in
    let t : g.row.C.Denot × g.row.S.Denot = (c.raise.new.self, c.args.sink.now) in
    let fits : nat_lt most c.count-count.result ≡ false = sym c.is_too_many.ensures ∙ c.if-is_too_many.false in
    let counts : g.C.ChannelCells.did (raised c.side-side.result c.count-count.result true) c.count-count.new.self c.raise.new.self =
    subst (λ (b : Bool). g.C.ChannelCells.did (raised c.side-side.result c.count-count.result b) c.count-count.new.self c.raise.new.self) c.if-raise.true c.raise.ensures.deed
    in
    let walked = made did c.side-side.result c.count-count.result s x t (c.count-count.ensures.deed, refl) fits (counts, refl) in
    (Made, subst (λ (side : Side). WalkedTo did (Works (Load side Clone)) s Made t) c.side-side.ensures walked, refl)

pub returns-clause-deeds : goal.returns-clause-deeds
returns-clause-deeds g c =
    let did = Done g.C.ChannelCells.did g.S.Wakes.wakes in
    let s : g.row.C.Denot × g.row.S.Denot = (c.args.cells.now, c.args.sink.now) in
    let x : g.row.C.Denot × g.row.S.Denot = (c.count-count.new.self, c.args.sink.now) in
    let t : g.row.C.Denot × g.row.S.Denot = (c.raise.new.self, c.args.sink.now) in
    let u : g.row.C.Denot × g.row.S.Denot = (c.count_again.new.cells, c.count_again.new.sink) in
    let fits : nat_lt most c.count-count.result ≡ false = sym c.is_too_many.ensures ∙ c.if-is_too_many.false in
    let refuses : g.C.ChannelCells.did (raised c.side-side.result c.count-count.result false) c.count-count.new.self c.raise.new.self =
    subst (λ (b : Bool). g.C.ChannelCells.did (raised c.side-side.result c.count-count.result b) c.count-count.new.self c.raise.new.self) c.if-raise.false c.raise.ensures.deed
    in
    let r = c.count_again.result in
    let rest = c.count_again.ensures.deeds in
    let walked = again did c.side-side.result c.count-count.result s x t (c.count-count.ensures.deed, refl) fits (refuses, refl) r rest.0 u rest.1 in
    (r, subst (λ (side : Side). WalkedTo did (Works (Load side Clone)) s r u) c.side-side.ensures walked, c.made_answer.ensures)

pub count-count-requires : goal.count-count-requires
count-count-requires g c =
    let side = c.side-side.result in
    let h = subst (λ (x : Side). g.C.ChannelCells.stands (Working (Load x Clone)) c.args.cells.now) (sym c.side-side.ensures) (c.requires.stands (Working (Load g.K.Kind.side Clone)) (refl, refl)) in
    record { may = standing.load_ready g.C.ChannelCells.stands g.C.ChannelCells.may g.met.C.ChannelCells.ready c.args.cells.now side Clone h }

pub raise-requires : goal.raise-requires
raise-requires g c =
    let side = c.side-side.result in
    let h = subst (λ (x : Side). g.C.ChannelCells.stands (Working (Load x Clone)) c.args.cells.now) (sym c.side-side.ensures) (c.requires.stands (Working (Load g.K.Kind.side Clone)) (refl, refl)) in
    let n = c.count-count.result in
    let s1 = c.count-count.new.self in
    let fits : nat_lt most n ≡ false = sym c.is_too_many.ensures ∙ c.if-is_too_many.false in
    let raises = standing.reads_on g.C.ChannelCells.stands g.C.ChannelCells.did g.met.C.ChannelCells.leads g.met.C.ChannelCells.rests c.args.cells.now s1 side n h c.count-count.ensures.deed fits in
    record { may = standing.raise_ready g.C.ChannelCells.stands g.C.ChannelCells.may g.met.C.ChannelCells.ready s1 side n Clone raises }

pub count_again-requires : goal.count_again-requires
count_again-requires g c =
    let side = c.side-side.result in
    let h = subst (λ (x : Side). g.C.ChannelCells.stands (Working (Load x Clone)) c.args.cells.now) (sym c.side-side.ensures) (c.requires.stands (Working (Load g.K.Kind.side Clone)) (refl, refl)) in
    let n = c.count-count.result in
    let s1 = c.count-count.new.self in
    let fits : nat_lt most n ≡ false = sym c.is_too_many.ensures ∙ c.if-is_too_many.false in
    let raises = standing.reads_on g.C.ChannelCells.stands g.C.ChannelCells.did g.met.C.ChannelCells.leads g.met.C.ChannelCells.rests c.args.cells.now s1 side n h c.count-count.ensures.deed fits in
    let refuses : g.C.ChannelCells.did (raised side n false) s1 c.raise.new.self = subst (λ (b : Bool). g.C.ChannelCells.did (raised side n b) s1 c.raise.new.self) c.if-raise.false c.raise.ensures.deed in
    record { stands = standing.raises_on g.C.ChannelCells.stands g.C.ChannelCells.did g.met.C.ChannelCells.leads g.met.C.ChannelCells.rests s1 c.raise.new.self side n raises refuses }
