-- The next job of a state.
use Rattle.yds_model.proofs.Common.{◌≡◌, ◌<◌, List, [], ◌∷◌, ◌++◌, length, refl, All, Any, get_or_default, All-push, Job, IsJob, no_job}
use Rattle.yds_admit.specs.declared.board.Board.{Board}
use Rattle.yds_admit.specs.declared.state.State.{State}
use Rattle.yds_admit.specs.Pieces.{AreDue}
use Rattle.yds_admit.specs.State.{IsState, next_job}
use Rattle.yds_admit.proofs.Times.{all_due}

-- the deadlines of the admitted jobs are among the times
pub jobs_due : (board : Board) (state : State) → IsState board state → AreDue board.times.items state.jobs.items
jobs_due board state is = all_due board.rows.now state.jobs.items board.times.items is.on.are_times is.marked.marked.known is.decided.are

module _ (board : Board) (state : State) (is : IsState board state) (more : state.next < length board.rows.now) where
  abbrev with_next : List Job
  with_next = state.jobs.items ++ next_job board state ∷ []

  -- with the next one they are jobs within the limits
  pub next_are : All IsJob with_next
  next_are = All-push IsJob state.jobs.items (next_job board state) is.decided.are (is.on.are state.next no_job more)

  -- the next one's deadline is among the times too
  pub next_due : AreDue board.times.items with_next
  next_due = all_due board.rows.now with_next board.times.items is.on.are_times
      (All-push (λ (job : Job). Any (λ one. one ≡ job) board.rows.now) state.jobs.items (next_job board state) is.marked.marked.known
      (state.next, next_job board state, more, get_or_default board.rows.now state.next (next_job board state) no_job more, refl)) next_are
