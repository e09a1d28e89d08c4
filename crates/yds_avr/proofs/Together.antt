-- The parts of the live jobs, gone through one by one.
use Rattle.yds_model.proofs.Common.{◌≡◌, ℕ, ◌+◌, ◌*◌, ◌%◌, ◌<◌, ◌≤◌, List, length, get_or, take, ◌∙◌, sym, ap, arith, true, false, ◌==◌, ◌||◌, not, All, sum_by, list_any, sum_by_more, list_any_more, list_any_at, Piece, div_up}
use Rattle.yds_events.specs.Stretch.{length_of}
use Rattle.yds_avr.specs.declared.rate.Rate.{Rate}
use Rattle.yds_avr.specs.Rate.{window_length, rate_term, rate_rounds, IsLive}
use Rattle.yds_avr.specs.Roster.{no_rate}
use Rattle.yds_avr.proofs.Rounded.{part_apart, part_few, part_rounds}

module _ (stretch : Piece) (live : List Rate) (are : All (IsLive stretch) live) (i : ℕ) (within : i < length live) where
  abbrev this : Rate
  this = get_or live i no_rate

  pub this_one : IsLive stretch this
  this_one = are i no_rate within

  -- one part more
  pub sum_next : (length more rest : ℕ) → length ≡ length_of stretch →
      sum_by (λ rate. rate.whole) (take i live) * length + more ≡ sum_by (rate_term stretch) (take i live) → rest ≡ div_up (this.rest * length) (window_length this) →
      sum_by (λ rate. rate.whole) (take (i + 1) live) * length + (more + rest) ≡ sum_by (rate_term stretch) (take (i + 1) live)
  sum_next length more rest long sum rest_is = omega (
    arith,
    ap (λ n. n * length) (sum_by_more (λ (rate : Rate). rate.whole) live i no_rate within),
    sum_by_more (rate_term stretch) live i no_rate within,
    part_apart stretch this this_one,
    sum,
    rest_is,
    ap (λ n. div_up (this.rest * n) (window_length this)) long,
    ap (λ n. this.whole * n) long,
  )

  pub few_next : sum_by (rate_term stretch) (take i live) ≤ i * 1000000000000 → sum_by (rate_term stretch) (take (i + 1) live) ≤ (i + 1) * 1000000000000
  few_next few = omega (arith, sum_by_more (rate_term stretch) live i no_rate within, part_few stretch this this_one, few)

  -- whether it is whole
  rounds_this : (length : ℕ) → length ≡ length_of stretch → not (this.rest * length % window_length this == 0) ≡ rate_rounds stretch this
  rounds_this length long = ap (λ n. not (this.rest * n % window_length this == 0)) long ∙ sym (part_rounds stretch this this_one)

  pub whole_next : (length : ℕ) → length ≡ length_of stretch → list_any (rate_rounds stretch) (take i live) ≡ false →
      not (this.rest * length % window_length this == 0) ≡ false → list_any (rate_rounds stretch) (take (i + 1) live) ≡ false
  whole_next length long none whole =
      list_any_more (rate_rounds stretch) live i no_rate within
      ∙ ap (λ b. b || rate_rounds stretch this) none
      ∙ sym (rounds_this length long)
      ∙ whole

  pub rounds_here : (length : ℕ) → length ≡ length_of stretch → not (this.rest * length % window_length this == 0) ≡ true → list_any (rate_rounds stretch) live ≡ true
  rounds_here length long rounds = list_any_at (rate_rounds stretch) live i no_rate within (sym (rounds_this length long) ∙ rounds)
