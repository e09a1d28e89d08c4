use Rattle.yds_model.proofs.Common.{rules, answers_always, WrittenSlot}
use Rattle.yds_slots.proofs.schedule.by_start.Goals as goal

pub returns-clause-rising : goal.returns-clause-rising
returns-clause-rising c = c.in_ok-sort_by_key.ensures.sorted (λ (slot : WrittenSlot). slot.from) (answers_always _ _ _ (λ f a r f' k. search rules))

pub returns-clause-stable : goal.returns-clause-stable
returns-clause-stable c = c.in_ok-sort_by_key.ensures.stable (λ (slot : WrittenSlot). slot.from) (answers_always _ _ _ (λ f a r f' k. search rules))
