-- The names that most proofs cite, passed on from one place: those that `base` passes on, and the definitions of this crate. Declares nothing.
pub use Rattle.base.proofs.Common.{◌%◌, ◌&&◌, ◌*ℤ◌, ◌*◌, ◌++◌, ◌+ℤ◌, ◌+◌, ◌-ℤ◌, ◌-◌, ◌/◌, ◌<◌, ◌==◌, ◌>>=◌, [], ◌^◌, add-mul, add-mul-div_right, add-one, add-zero, after_first, All, All-append, All-back, All-cons, All-contains, All-contains_itself, All-drop, All-filter, All-flat, All-from_get_or, All-from_recursion, All-front, All-get_or, All-head, All-join, All-last, All-map, All-more, All-nil, All-permutation, All-pop, All-push, All-rest, All-same, All-set, All-tail, All-take, All-weaker, all_pairs_push, AllByRecursion, AllPairs, AllPairs-append, AllPairs-cons, AllPairs-filter, AllPairs-from_increasing, AllZip, always_returns_same, and-false, and_comm, and_from, and_left, and_parts, and_right, answers_always, Any, Any-append_left, Any-append_right, Any-from_list_any, ap, append-nil, append_assoc, Appends, ap₂, AreDifferent, arith, at_drop_all, at_drop_more, before_first, below_more, between_is, between_to_end, bit_at, bit_at-trailing_zeros, Bool, Bor, both_true, both_ways, bytes_eq, bytes_eq-Decides, cases_Bool, cases_eq, cases_lt, cases_order, chunk-drop, clamps, codes, common_steps, cond, cond-false, cond-true, cond_both, Consumes, Contains, Contains-append_cases, Contains-append_left, Contains-append_right, Contains-dedup_nat, Contains-from_any, Contains-from_dedup, Contains-get_or, Contains-permutation, Contains-push, contains_filter, count, count-cons, count_by, count_by-le-length, count_fields, counted_contains, Decides, Decides-and, Decides-below_and, Decides-by_and, Decides-eqb, Decides-like, Decides-ltb, Decides-or, decimal, decimal_digit, decimal_digits, decimal_none, decimal_nonempty, decimal_without, dedup, dedup_from, dedup_is, demand, digit_glyph, digit_range, digit_value, digits_onto, digits_value, digits_value-decimal, digits_value-take-le, digits_value_more, div-add-mod, div-add-mod', div-div-eq-div-mul, div-le_of_le-mul, div-le_self, div-lt_iff_lt-mul, div-mul-add, div-mul-le_self, div-mul_cancel, div-one, drop, drop-append-add, drop-append-le, drop-cons, drop-drop, drop-set-add, drop-set-lt, drop_all, drop_at, drop_blanks-none, drop_more, dvd-mul_left, dvd-mul_right, dvd-mul_right_of_dvd, dvd_of_mod-eq-zero, dvd_of_mul-dvd-mul_left, dvd_refl, dvd_trans, Each, EndsField, enumerate_from, eq-eqb, eq-zero_of_zero-dvd, eq_of_mul-eq-mul_left, eq_of_mul-eq-mul_right, eqb, eqb-false, eqb-true, Equal, Err, err_from_is_err_and, ext_get_or, fails_before_first, false, false-and, false_from_ne_true, false≢true, Fault, Field, field_at, fields_from, fields_from-blanks, fields_from-first, fields_from-join, fields_from-run, fields_of, fill_by_all, filter, filter-append, filter-range_with_len_more, filter_agree, filter_all, filter_map, filter_map-append, filter_more, filter_none, filter_passes, filter_step, firsts-zip, flat_map, flat_map-append, flat_map-cons, flat_map-map, flat_map-take, flat_map_more, fold, fold_push, found_or_none, from_bool, fun_ext, get_or, get_or-append-add, get_or-append_right, get_or-append_seam, get_or-drop, get_or-enumerate_from, get_or-eq_default, get_or-insert_above, get_or-insert_at, get_or-insert_below, get_or-le-sum_by, get_or-map, get_or-map-range_with_len, get_or-range_with_len, get_or-replicate, get_or-reverse, get_or-set_other, get_or-set_same, get_or-take, get_or-zip, get_or_append_left, get_or_at, get_or_default, get_or_default_zero, get_or_past, get_or_push, get_or_read, Global, Greater, IfErr, IfNone, IfOk, IfSome, if◌then◌else◌, in_field, in_front, inl, inr, insert, int_max, ints, is_blank, is_digit, is_lt, is_name, is_none, is_number, is_number-decimal, is_some, is_visible, IsDistinct-from_AllPairs, IsDistinct-from_apart, IsDistinct-IsPermutation, IsErr, IsErrOf, IsFirstFailure, IsFull, IsGcd, IsGcd-from_sub, IsGcd-from_zero, IsGcd-swap, IsItemAt, IsNonDecreasing, IsNonDecreasingBy, IsNonDecreasingBy-from_sort, IsNonDecreasingBy-from_sort_by_key, IsNonDecreasingBy-insert, IsPartitionedBy, IsPartitionedBy-leb, IsPartitionedBy-ltb, IsPartitionPoint, IsPartitionPoint-from_clause, IsPermutation, IsPermutation-append_comm, IsPermutation-append_left, IsPermutation-insert, IsPermutation-map, IsPermutation-middle, IsPermutation-push_more, IsPermutation-refl, IsPermutation-sym, IsPermutation-to_front, IsPermutation-trans, IsSorted, IsSortedByKey, IsStableByKey, IsStrictlyIncreasing, IsStrictlyIncreasing-dedup, IsStrictlyIncreasing-filter, IsStrictlyIncreasing-from_distinct, IsTrue, IsUtf8, items_from_collect, join_with_byte, joined, le-div_iff_mul-le, le-leb, le-ltb, le_of_dvd, le_of_mul-le-mul_left, le_of_mul-le-mul_right, le_refl, leb-false, leb-true, leb_tells, length, length-append, length-decimal-le, length-drop, length-enumerate_from, length-fields_from-le, length-filter, length-filter_both, length-flat_map, length-flat_map-take, length-insert, length-le_from_distinct_below, length-lines_from-le, length-map, length-map-range_with_len, length-range_with_len, length-replicate, length-reverse, length-set, length-take, length-take-le, length-zip, length_permutation, length_push, Less, line, Line, lines_from, lines_from-front, lines_from-last, lines_from-written, lines_of, List, list_all, list_all-append, list_all-from_AllPass, list_all-map, list_all_at, list_any, list_any-IsPermutation, list_any_at, list_any_more, list_any_none, lt-div-mul-add, lt-leb, lt-ltb, lt_of_mul-lt-mul_right, ltb, ltb-false, ltb-true, map, map-append, map-id, map-map, map-range_with_len_more, map-set, map-set_same, map_more, map_push, MatchBool, MatchOption, MatchOrdering, MatchResult, max, min, mod-eq-zero_of_dvd, mod-eq_of_lt, mod-le, mod-lt, mod-mul-add, mul-add, mul-add-div_right, mul-add-mod_self_right, mul-div_cancel, mul-dvd-mul_left, mul-le, mul-le-mul, mul-le-mul_left, mul-le-mul_right, mul-lt-mul_of_pos_left, mul-lt-mul_of_pos_right, mul-pos, mul-sub, mul-suc, mul-zero, mul_assoc, mul_comm, mul_left_comm, mul_right_comm, nat_cmp, nat_cmp_is, nat_eq_equiv, nat_le, nat_lt, nat_tests, ne_eqb, negsuc, nil_from_length, None, not, not-false, not-true, not_from_Decides, not_from_false, not_from_true, number_at, number_at-decimal, number_digits, Ok, on_ok_weaker, one-dvd, one-mul, OnErr, OnOk, Option, option_and_then, option_copied, option_map, option_to_list, or-true, or_from, or_parts, ord_max, Ordering, ordering_then, part_other, part_own, passes_at_first, past_end, place_cases, pos, position, position-Some, position_or_len, position_or_len_is, pow-add, pow-le-pow_right, pow-suc, prefix_len, prefix_len-drop_yes, prefix_len-le-length, prefix_len_is, prefix_len_passes, prefix_len_stops, RandomState, range_with_len, ranked, recursion_from_All, refl, refuse, replicate, Result, result_ok, reverse, reverse-append, reverse_onto, rules, same_from_IsGcd, same_from_push, same_lists, seconds-zip, set, set-get_or, set-set, slice_get, slice_get-get_or, slice_get-map, slice_get_past, slice_get_read, slice_index, slice_index_or, slice_range, slice_set, Some, spaced, Spot, String, subst, suc, sum, sum-map, sum_by, sum_by-add, sum_by-append, sum_by-cons, sum_by-filter, sum_by-filter_both, sum_by-insert, sum_by-IsPermutation, sum_by-le, sum_by-le-sum_by, sum_by-map, sum_by-mul, sum_by-set, sum_by-take-drop, sum_by-take-le, sum_by_at_most, sum_by_more, sum_by_more_le, sum_by_push, sum_by_pushed, sum_by_same, sum_by_zero, sym, take, take-add, take-append-add, take-append-drop, take-append-le, take-append_seam, take-length, take-map-range_with_len, take-set-le, take-take, take_all, take_at, take_more, take_more_set, take_while-cons, then_some, ties_still_rise, trailing_zeros, trimmed, true, true≢false, unwrap_or, vec_capacity, vec_len, w64, without_return, without_return-end, without_return-none, without_return-other, YieldsList-from_range, zero, zero-add, zero-mul, zip, ◌||◌, ℕ, ℤ, ◌↔◌, ◌∙◌, ◌∣◌, ◌∷◌, ◌≡◌, ◌≢◌, ◌≤ℤ◌, ◌≤◌, ⊎_elim, ◌⊎◌}
unfoldable pub use Rattle.base.proofs.Common.{digits, IsDistinct}
pub use Rattle.yds_model.specs.Admission.{AdmitsAfter, CanServe, confined_work, IsAdmission, IsAdmittedRun, IsFirstOverfull, IsOverfull, IsRefusal, IsWithinTop, jobs_with, lies_within, Refusal, top_capacity}
pub use Rattle.yds_model.specs.AdmitAnswer.{AdmitAnswer, refusal_comment, with_taken}
pub use Rattle.yds_model.specs.Answer.{Answers, AnswersQuestion, AnswersReading, AnswersRequest, AnswersTasks, is_too_long, OnPoints, UnlessTooLong}
pub use Rattle.yds_model.specs.Audit.{AllStand, AreInGrain, AreSlots, Backward, ComesTo, crossed_length, Early, Feasible, GetsItsWork, given_of, grain_of, HasSpeed, IsAfterOthers, IsOnTable, IsVerdict, Late, OffPoint, Overlap, parts_given, RunsAt, Stands, Verdict, WrongWork}
pub use Rattle.yds_model.specs.AuditAnswer.{AuditAnswer, CheckAnswer, judgement_status, judgement_words, verdict_status, verdict_words}
pub use Rattle.yds_model.specs.AverageRate.{average_rate, average_rate_rounds, is_live, IsAverageRateRun, rounds_term, term_numerator, term_of, terms_of}
pub use Rattle.yds_model.specs.CompareAnswer.{CompareAnswer, ComparedAnswer, rounded_line, side_lines, spent_lines}
pub use Rattle.yds_model.specs.Comparison.{all_energy, all_time_at, HoldsAll, HoldsStretch, in_parts, IsSide, IsSpent, IsSpentAt, IsTooSlowFor, Side, Spends, Spent, time_at, TooSlowFor, work_in}
pub use Rattle.yds_model.specs.Confined.{released_work, window_is_within, work_within}
pub use Rattle.yds_model.specs.Curve.{Break, break_at, breaks_of, IsLeastExcess, least_above}
pub use Rattle.yds_model.specs.CurveAnswer.{break_line, curve_text}
pub use Rattle.yds_model.specs.Divisor.{common_divisor, common_multiple, in_lowest_terms, IsLowest, multiple_of_all}
pub use Rattle.yds_model.specs.Document.{Document, Grid, name_at, no_document, with_answer}
pub use Rattle.yds_model.specs.EarliestFirst.{ComesFirst, EarliestAfter, IsEarliestFirst, IsFirstDue, MayRun}
pub use Rattle.yds_model.specs.Energy.{busy, first_release, greatest, horizon, idle, interpolated_energy, interpolated_power, IsAtPoint, IsEnergyOnPoints, last_deadline, on_lines, product, SpendsAtPoints, total}
pub use Rattle.yds_model.specs.Entry.{document_said, energy_said, EnergyEntry, Entry, first_of_them, grid_said, GridEntry, is_level, job_named, JobEntry, LevelEntry, levels_said, member_said, MemberEntry, name_said, piece_said, PieceEntry, point_said, PointEntry, slot_said, SlotEntry, ticks_said, TicksEntry}
pub use Rattle.yds_model.specs.Event.{event_points, IsUncut, LiesIn, LiesWritten, neighbours, rising_times, stretch_at, stretches, with_time}
pub use Rattle.yds_model.specs.Excess.{excess, IsLeast, IsLeastAt}
pub use Rattle.yds_model.specs.ExpandAnswer.{expansion_text, level_comment}
pub use Rattle.yds_model.specs.Explains.{Explains, ExplainsAt, Forces}
pub use Rattle.yds_model.specs.Feasible.{IsFeasible, IsFeasibleAt, IsInWindow, RunFrom}
pub use Rattle.yds_model.specs.Job.{IsJob, Job, job_at, no_job, work_of}
pub use Rattle.yds_model.specs.JsonAnswer.{level_json, report_json}
pub use Rattle.yds_model.specs.Judgement.{Accepted, HasWrittenSpeed, IsJudgement, Judgement, Members, MembersHold, Order, OrderHolds, Pieces, PiecesHold, Slots, SlotsHold, Speed, Sums, SumsHold, Window, WindowsHold}
pub use Rattle.yds_model.specs.Level.{all_members, all_pieces, Level, level_at, levels_above, no_level}
pub use Rattle.yds_model.specs.OptimalAvailable.{asked, due_units, IsOptimalAvailableRun, optimal_available, optimal_available_rounds, pending_deadlines, pending_jobs, units_asked}
pub use Rattle.yds_model.specs.Piece.{AreApart, Covers, IsConfined, IsForward, Piece, PiecesFrom, total_length}
pub use Rattle.yds_model.specs.Plan.{DontTouch, HasLevelDenominators, IsPlan, IsServedInStretches, IsSlower, Rise, speed_den, speed_num}
pub use Rattle.yds_model.specs.PlanAnswer.{with_plan}
pub use Rattle.yds_model.specs.Policy.{div_up, FillsAtSpeed, HasRunDenominators, IsRunAt, numbers_of, pending_at, pending_units, ServesCapacity, slots_in}
pub use Rattle.yds_model.specs.Proper.{AreLevels, HasLevelSpeed, IsNotFaster, IsProper, IsWindowCovered, PiecesStand, StandsOnce, SumsAgree}
pub use Rattle.yds_model.specs.Reading.{are_alike, begins_comment, EnergyLine, fields_wanted, fits_grain, follows_points, fraction_in, GridLine, has_room, is_skipped, JobLine, Kind, kind_of, known_job, LevelLine, live_lines, may_follow, MemberLine, new_name, number_in, PieceLine, PointLine, read_after, read_energy, read_fields, read_grid, read_job, read_kind, read_level, read_line, read_member, read_piece, read_point, read_run_at, read_slot, read_ticks, reading, reason_of, RunLine, SlotLine, TicksLine}
pub use Rattle.yds_model.specs.ReportAnswer.{idle_row, jobs_row, level_row, speed_text}
pub use Rattle.yds_model.specs.Request.{AskAdmit, AskAudit, AskAuditOnPoints, AskAverageRate, AskCheck, AskCompare, AskCurve, AskOptimalAvailable, AskPlan, AskReport, AskReportAsJson, AskRound, OfDocument, OfTasks, OfTrial, Question, Request, request_of, request_of_grid, request_of_three, request_of_top, request_of_trial, request_of_two, request_of_word, usage_line}
pub use Rattle.yds_model.specs.RoundAnswer.{RoundAnswer, RoundedAnswer, TooSlowAnswer}
pub use Rattle.yds_model.specs.Rounding.{AreNeighbours, HasPointSpeed, HasSplitDenominators, IsEnergyOf, IsRounding, IsSplitAt, IsTooFast, jobs_in_turn, RoundsStretch, RoundsStretches, RunsAtPoint, RunsOn, SplitsStretch, top_of}
pub use Rattle.yds_model.specs.Scale.{AreAlike, at_scale, Fraction, IsAtMost, IsLess, IsLessQuotient, IsMultiple, IsSame, IsSameQuotient, IsSum, numerator, of_parts, of_whole, Quotient}
pub use Rattle.yds_model.specs.Slot.{AtEachScale, IsDivided, IsScale, IsSolid, no_slot, no_written_slot, slot_at, slot_at_scale, slots_at, WholeSlot, work_given, written_slot_at, WrittenSlot}
pub use Rattle.yds_model.specs.Spelling.{fraction_at, is_mixed, is_plus, is_slash, kept, mixed_of}
pub use Rattle.yds_model.specs.Table.{AreRising, gaps_of, GoesOn, hull_multiple, hull_of, IsAbove, IsConvex, IsHullOf, IsOnOrBelow, IsPartOf, IsTable, no_point, Point, point_at}
pub use Rattle.yds_model.specs.TaskReading.{count_of_all, has_task_named, horizon_said, HorizonEntry, is_task_name, new_task_name, read_horizon, read_task, read_task_fields, read_task_line, read_tasks_after, task_number_in, task_reading, task_reason_of, task_said, TaskEntry, TaskEntryOf, tasks_said}
pub use Rattle.yds_model.specs.Tasks.{count_of_jobs, fills_horizon, has_work, horizon_of, jobs_of_tasks, level_until, names_of_tasks, nth_job, nth_name, numbers_of_jobs, Task, TaskSet}
pub use Rattle.yds_model.specs.Text.{canonical_text, energy_lines, fraction_text, grid_lines, job_line, job_lines, level_lines, member_line, piece_line, point_line, slot_line}
pub use Rattle.yds_model.specs.TrialAnswer.{drawn_job, drawn_jobs, next_state, peak_words, TrialAnswer}
pub use Rattle.yds_model.specs.Within.{AreDifferentNames, AreLevelsOf, AreNamedJobs, ArePoints, AreSlotsOf, IsDocument, IsFraction, IsGrid, IsLevel, IsPiece, IsPoint, IsSlot, IsTextOf}
