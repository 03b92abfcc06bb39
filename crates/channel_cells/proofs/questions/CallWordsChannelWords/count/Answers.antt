use Rattle.concurrent_queue.specs.declared.history.rule.CountStep.TheVariants.{Read}
use Rattle.channel_cells.specs.Words.{words_form, words_view}
use Rattle.channel_cells.proofs.Counting.{may_count}
use Rattle.channel_cells.proofs.questions.CallWordsChannelWords.count.Goals as goal

pub count-requires : goal.count-requires
count-requires g c = record { next = may_count (words_form c.args.self.now) (words_view c.args.self.now) c.counter_of.result c.args.side c.counter_of.ensures Read c.requires.may (λ n. tt) }
