-- The names that most proofs cite, passed on from one place: of std, and those of this crate. Declares nothing.
pub use Rattle.std.proofs.Common.{◌%◌, ◌&&◌, ◌*ℤ◌, ◌*◌, ◌++◌, ◌+ℤ◌, ◌+◌, ◌-ℤ◌, ◌-◌, ◌/◌, ◌<◌, ◌==◌, ◌^◌, ◌||◌, ◌↔◌, ◌∙◌, ◌∷◌, ◌≡◌, ◌≢◌, ◌≤ℤ◌, ◌≤◌, ◌⊎◌, [], add-one, add-zero, All, Any, ap, append-nil, append_assoc, ap₂, arith, below_more, Bool, Bor, bytes_eq, codes, cond, Contains, count_by, Decides, decimal, drop, drop-cons, drop-drop, drop_at, eq-eqb, eqb-true, Err, false, filter, flat_map, fold, get_or, get_or-set_other, get_or-set_same, get_or-take, IfNone, if◌then◌else◌, inl, inr, insert, is_none, IsErr, le-div_iff_mul-le, le-leb, le-ltb, le_refl, leb-true, length, length-append, length-drop, length-set, length-take, length-take-le, List, lt-ltb, ltb, map, MatchOption, MatchResult, max, min, mul-le-mul_left, mul-le-mul_right, mul-pos, mul-zero, mul_assoc, mul_comm, mul_left_comm, mul_right_comm, nat_cmp, nat_le, nat_lt, ne_eqb, negsuc, None, not, Ok, one-mul, Option, option_and_then, option_copied, pos, position, refl, replicate, Result, reverse, rules, set, set-set, slice_index, slice_index_or, slice_set, Some, subst, suc, sum, sum_by, sym, take, take-append-drop, take-take, take_all, take_at, true, vec_capacity, vec_len, zero, zero-add, ℕ, ℤ, ⊎_elim}
pub use Rattle.std.proofs.Math.Bool.{and-false, and_comm, false-and, or-true}
pub use Rattle.std.proofs.Math.ListN.{get_or-eq_default}
pub use Rattle.std.proofs.Math.Nat.{add-mul, add-mul-div_right, div-add-mod, div-div-eq-div-mul, div-le_of_le-mul, div-le_self, div-lt_iff_lt-mul, div-mul-le_self, div-mul_cancel, div-one, dvd-mul_left, dvd-mul_right, dvd-mul_right_of_dvd, dvd_of_mul-dvd-mul_left, eq-zero_of_zero-dvd, eq_of_mul-eq-mul_left, eq_of_mul-eq-mul_right, le_of_mul-le-mul_left, le_of_mul-le-mul_right, lt-div-mul-add, lt_of_mul-lt-mul_right, mod-eq_of_lt, mod-le, mod-lt, mul-add, mul-add-div_right, mul-add-mod_self_right, mul-div_cancel, mul-dvd-mul_left, mul-le-mul, mul-lt-mul_of_pos_left, mul-lt-mul_of_pos_right, mul-sub, mul-suc, one-dvd, pow-le-pow_right, pow-suc, zero-mul}
pub use Rattle.std.proofs.Math.Path.{fun_ext}
pub use Rattle.std.proofs.Math.Seq.{drop-append-add, get_or-append_seam, map-set_same, take-add, take-append-add, take-append_seam, take-length}
pub use Rattle.std.proofs.lemmas.Bool.{and_from, and_left, and_parts, and_right, both_ways, cases_Bool, cases_eq, cases_lt, cases_order, cond-false, cond-true, cond_both, eqb-false, false_from_ne_true, false≢true, leb-false, lt-leb, ltb-false, ltb-true, not-false, not-true, not_from_false, not_from_true, or_from, or_parts, true≢false}
pub use Rattle.std.proofs.lemmas.Bool.Decides.{Decides-and, Decides-below_and, Decides-by_and, Decides-eqb, Decides-like, Decides-ltb, Decides-or, leb_tells, nat_tests, not_from_Decides}
pub use Rattle.std.proofs.lemmas.Cmp.{nat_eq_equiv, ranked}
pub use Rattle.std.proofs.lemmas.Fmt.{decimal_digit, decimal_nonempty, length-decimal-le}
pub use Rattle.std.proofs.lemmas.Fn.{always_returns_same}
pub use Rattle.std.proofs.lemmas.Grind.{common_steps, get_or_default_zero, reverse_onto}
pub use Rattle.std.proofs.lemmas.Int.{clamps, ints}
pub use Rattle.std.proofs.lemmas.Int.Digits.{digits_value_more}
pub use Rattle.std.proofs.lemmas.Iterator.{items_from_collect, YieldsList-from_range}
pub use Rattle.std.proofs.lemmas.List.{at_drop_all, at_drop_more, drop-append-le, drop-set-add, drop-set-lt, drop_all, drop_more, ext_get_or, flat_map_more, get_or-append-add, get_or-append_right, get_or-drop, get_or-map, get_or-replicate, get_or-reverse, get_or_append_left, get_or_at, get_or_default, get_or_past, get_or_push, get_or_read, length-map, length-replicate, length-reverse, length_push, map-append, map-id, map-set, map_more, map_push, nil_from_length, reverse-append, same_from_push, same_lists, set-get_or, take-append-le, take-set-le, take_more, take_more_set}
pub use Rattle.std.proofs.lemmas.List.Concat.{flat_map-append, flat_map-cons, length-flat_map}
pub use Rattle.std.proofs.lemmas.List.Edits.{get_or-insert_above, get_or-insert_at, get_or-insert_below, length-insert}
pub use Rattle.std.proofs.lemmas.List.Elements.{All-append, All-cons, All-contains, All-contains_itself, All-drop, All-filter, All-from_get_or, All-from_recursion, All-get_or, All-head, All-map, All-more, All-nil, All-pop, All-push, All-rest, All-same, All-set, All-tail, All-take, All-weaker, Contains-append_cases, Contains-append_left, Contains-append_right, Contains-get_or, Contains-push, filter-append, filter_agree, filter_map-append, filter_more, filter_passes, recursion_from_All}
pub use Rattle.std.proofs.lemmas.List.Filters.{dedup_is, length-filter_both, sum_by-filter_both}
pub use Rattle.std.proofs.lemmas.List.Folds.{Any-from_list_any, flat_map-map, length-flat_map-take, list_all-append, list_all-map, list_all_at, list_any_at, list_any_more, list_any_none}
pub use Rattle.std.proofs.lemmas.List.FromFn.{fill_by_all, get_or-enumerate_from, get_or-map-range_with_len, get_or-range_with_len, length-enumerate_from, length-map-range_with_len, length-range_with_len, map-range_with_len_more, take-map-range_with_len}
pub use Rattle.std.proofs.lemmas.List.Kept.{AllPairs-cons, AllPairs-filter, AllPairs-from_increasing, Contains-dedup_nat, Contains-from_dedup, IsStrictlyIncreasing-filter}
pub use Rattle.std.proofs.lemmas.List.Quantifiers.{all_pairs_push, position-Some}
pub use Rattle.std.proofs.lemmas.List.Sorted.{All-permutation, answers_always, Contains-permutation, IsNonDecreasingBy-from_sort, IsNonDecreasingBy-from_sort_by_key, IsNonDecreasingBy-insert, IsPartitionedBy-leb, IsPartitionedBy-ltb, IsPartitionPoint-from_clause, IsPermutation-append_comm, IsPermutation-append_left, IsPermutation-insert, IsPermutation-map, IsPermutation-middle, IsPermutation-push_more, IsPermutation-refl, IsPermutation-sym, IsPermutation-to_front, IsPermutation-trans, length_permutation, list_any-IsPermutation, sum_by-IsPermutation, sum_by_pushed, ties_still_rise}
pub use Rattle.std.proofs.lemmas.List.Sums.{count_by-le-length, fails_before_first, fold_push, get_or-le-sum_by, length-filter, list_all-from_AllPass, passes_at_first, position_or_len_is, prefix_len-drop_yes, prefix_len-le-length, prefix_len_is, prefix_len_passes, prefix_len_stops, sum-map, sum_by-append, sum_by-cons, sum_by-insert, sum_by-le, sum_by-le-sum_by, sum_by-set, sum_by-take-drop, sum_by-take-le, sum_by_more, sum_by_more_le, sum_by_push, take_while-cons}
pub use Rattle.std.proofs.lemmas.Map.Keys.{IsDistinct-from_apart, IsDistinct-IsPermutation, IsStrictlyIncreasing-dedup, IsStrictlyIncreasing-from_distinct}
pub use Rattle.std.proofs.lemmas.Map.Made.{IsDistinct-from_AllPairs}
pub use Rattle.std.proofs.lemmas.Map.Steps.{length-le_from_distinct_below}
pub use Rattle.std.proofs.lemmas.Map.Views.{Contains-from_any}
pub use Rattle.std.proofs.lemmas.Nat.{div-add-mod', div-mul-add, mod-mul-add, mul-le, pow-add}
pub use Rattle.std.proofs.lemmas.Nat.Bits.{bit_at-trailing_zeros}
pub use Rattle.std.proofs.lemmas.Nat.Gcd.{dvd_of_mod-eq-zero, dvd_refl, dvd_trans, IsGcd-from_sub, IsGcd-from_zero, IsGcd-swap, le_of_dvd, mod-eq-zero_of_dvd, same_from_IsGcd}
pub use Rattle.std.proofs.lemmas.Option.{slice_get-get_or, slice_get-map, slice_get_past, slice_get_read}
pub use Rattle.std.proofs.lemmas.Result.{err_from_is_err_and, on_ok_weaker}
pub use Rattle.std.proofs.lemmas.Simd.{chunk-drop, map-map}
pub use Rattle.std.proofs.lemmas.Slice.{between_is, between_to_end}
pub use Rattle.std.proofs.lemmas.Slice.Eq.{bytes_eq-Decides}
pub use Rattle.std.proofs.lemmas.Slice.Zip.{firsts-zip, get_or-zip, length-zip, seconds-zip}
pub use Rattle.std.proofs.lemmas.Str.Parse.{digits_value-take-le}
pub use Rattle.std.specs.Bool.{then_some}
pub use Rattle.std.specs.Char.{digit_value}
pub use Rattle.std.specs.Cmp.{nat_cmp_is}
pub use Rattle.std.specs.Cmp.Derive.{both_true}
pub use Rattle.std.specs.Fmt.{digit_glyph, digits_onto}
unfoldable pub use Rattle.std.specs.Fmt.{digits}
pub use Rattle.std.specs.Int.{◌∣◌, bit_at, from_bool, int_max, IsGcd, trailing_zeros, w64}
pub use Rattle.std.specs.Io.KnownBytes.{Appends, Consumes}
pub use Rattle.std.specs.List.{after_first, AllByRecursion, AllPairs, AllZip, before_first, dedup, dedup_from, enumerate_from, filter_map, join_with_byte, list_all, list_any, position_or_len, prefix_len, range_with_len, slice_range, zip}
unfoldable pub use Rattle.std.specs.List.{IsDistinct}
pub use Rattle.std.specs.List.Sorted.{IsNonDecreasing, IsNonDecreasingBy, IsPartitionedBy, IsPartitionPoint, IsPermutation, IsSorted, IsSortedByKey, IsStableByKey, IsStrictlyIncreasing}
pub use Rattle.std.specs.Option.{option_to_list, unwrap_or}
pub use Rattle.std.specs.Ordering.{is_lt, MatchOrdering, ord_max, ordering_then}
pub use Rattle.std.specs.Prelude.{eqb, IfErr, IfOk, IfSome, is_some, IsTrue, MatchBool, OnErr, OnOk, option_map, slice_get, String}
pub use Rattle.std.specs.Result.{IsErrOf, result_ok}
pub use Rattle.std.specs.Slice.{IsItemAt}
pub use Rattle.std.specs.Str.{IsUtf8}
pub use Rattle.std.specs.Str.Parse.{digits_value}
pub use Rattle.std.specs.declared.alloc.Global.{Global}
pub use Rattle.std.specs.declared.cmp.Ordering.{Ordering}
pub use Rattle.std.specs.declared.cmp.Ordering.TheVariants.{Equal, Greater, Less}
pub use Rattle.std.specs.declared.random_state.RandomState.{RandomState}
pub use Rattle.base.proofs.Filters.{contains_filter, filter-range_with_len_more, filter_all, filter_none, filter_step, found_or_none, sum_by-filter}
pub use Rattle.base.proofs.Lines.{All-join, drop_blanks-none, EndsField, fields_from-blanks, fields_from-first, fields_from-join, fields_from-run, IsFull, length-fields_from-le, length-lines_from-le, lines_from-front, lines_from-last, lines_from-written, spaced, without_return-end, without_return-none, without_return-other}
pub use Rattle.base.proofs.Lists.{All-back, All-flat, All-front, All-last, AllPairs-append, Any-append_left, Any-append_right, count-cons, counted_contains, flat_map-take, place_cases}
pub use Rattle.base.proofs.Spelling.{decimal_digits, decimal_none, decimal_without, digit_range, digits_value-decimal, is_number-decimal, number_at-decimal, number_digits}
pub use Rattle.base.proofs.Sums.{part_other, part_own, sum_by-add, sum_by-map, sum_by-mul, sum_by_at_most, sum_by_same, sum_by_zero}
pub use Rattle.base.specs.Fields.{◌>>=◌, count_fields, demand, Fault, field_at, in_field, past_end, refuse, Spot}
pub use Rattle.base.specs.Lines.{Field, fields_from, fields_of, in_front, is_blank, joined, Line, line, lines_from, lines_of, trimmed, without_return}
pub use Rattle.base.specs.Numbers.{AreDifferent, count, Each, IsFirstFailure}
pub use Rattle.base.specs.Spelling.{is_digit, is_name, is_number, is_visible, number_at}
