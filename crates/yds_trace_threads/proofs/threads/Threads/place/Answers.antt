use Rattle.base.proofs.Common.{◌≡◌, ◌∙◌, ◌++◌, ◌<◌, ◌≤◌, ℕ, List, [], ◌∷◌, Bool, true, false, not, sym, ap, refl, arith, map, take, length, map-append, inl, inr}
use Rattle.std.specs.Prelude.{nat_eq}
use Rattle.std.specs.List.{list_any}
use Rattle.indexmap.specs.IndexSet.{insert_key}
use Rattle.yds_trace_threads.specs.declared.limits.TheConstants.{MOST_THREADS, MOST_COUNTED}
use Rattle.yds_trace_threads.specs.Threads.{threads_of}
use Rattle.yds_trace_threads.specs.Kept.{Facts, facts_read, facts_of, rows_kept, no_more}
use Rattle.yds_trace_threads.proofs.Rows.{found_place, pushed_row, no_new_row, place_of_new}
use Rattle.yds_trace_threads.proofs.Facts.{nothing_yet, with_room, with_new, with_old}
use Rattle.yds_trace_threads.proofs.threads.Threads.place.Goals as goal

is_absent : (b : Bool) → not b ≡ true → b ≡ false
is_absent true is = sym is
is_absent false is = refl

is_there : (b : Bool) → not b ≡ false → b ≡ true
is_there true is = refl
is_there false is = sym is

pub returns-then-len-ge-MOST_COUNTED-clause-place : goal.returns-then-len-ge-MOST_COUNTED-clause-place
returns-then-len-ge-MOST_COUNTED-clause-place c = found_place c.args.pid c.args.self.now.pids.keys c.get_index_of.result c.get_index_of.ensures.index

pub returns-in_ok-push-clause-holds : goal.returns-in_ok-push-clause-holds
returns-in_ok-push-clause-holds c = λ acts at.
    let none : list_any (nat_eq c.args.pid) c.args.self.now.pids.keys ≡ false =
    is_absent (list_any (nat_eq c.args.pid) c.args.self.now.pids.keys) (sym c.in_ok-place.ensures.added ∙ c.if-is_new.true) in
    let new : list_any (nat_eq c.args.pid) (threads_of acts) ≡ false = ap (list_any (nat_eq c.args.pid)) (sym at.numbers) ∙ none in
    let room : length (threads_of acts) < MOST_COUNTED = omega (arith, ap length at.numbers, c.len.ensures.len, c.if-len-ge-MOST_COUNTED.false) in
    let few : length (threads_of acts) < MOST_THREADS =
    omega (arith, ap length at.numbers, c.in_ok-place.ensures.index, c.if-place-lt-MOST_THREADS.true, place_of_new (nat_eq c.args.pid) c.args.self.now.pids.keys none) in
    record {
      numbers = c.in_ok-place.ensures.keys ∙ ap (λ (pids : List ℕ). insert_key nat_eq pids c.args.pid) at.numbers ∙ sym (with_room c.args.pid (threads_of acts) room);
      rows = ap (map facts_read) c.in_ok-push.ensures.items
          ∙ map-append facts_read c.args.self.now.kept.items (c.new.result ∷ [])
          ∙ ap (λ (row : Facts). map facts_read c.args.self.now.kept.items ++ row ∷ []) (c.new.ensures ∙ nothing_yet c.args.pid acts room new)
          ∙ pushed_row (facts_of acts no_more) c.args.pid MOST_THREADS (threads_of acts) (map facts_read c.args.self.now.kept.items) at.rows few
          ∙ ap (λ (pids : List ℕ). map (facts_of acts no_more) (take MOST_THREADS pids)) (sym (with_new c.args.pid (threads_of acts) room new));
      different = c.in_ok-place.ensures.unique;
    }

pub returns-else-is_new-clause-holds : goal.returns-else-is_new-clause-holds
returns-else-is_new-clause-holds c = λ acts at.
    let room : length (threads_of acts) < MOST_COUNTED = omega (arith, ap length at.numbers, c.len.ensures.len, c.if-len-ge-MOST_COUNTED.false) in
    record {
      numbers = c.in_ok-place.ensures.keys ∙ ap (λ (pids : List ℕ). insert_key nat_eq pids c.args.pid) at.numbers ∙ sym (with_room c.args.pid (threads_of acts) room);
      rows = elim c.else-is_new.either [
        | inl full ↦
            (let none : list_any (nat_eq c.args.pid) c.args.self.now.pids.keys ≡ false =
            is_absent (list_any (nat_eq c.args.pid) c.args.self.now.pids.keys) (sym c.in_ok-place.ensures.added ∙ full.0) in
            let new : list_any (nat_eq c.args.pid) (threads_of acts) ≡ false = ap (list_any (nat_eq c.args.pid)) (sym at.numbers) ∙ none in
            let many : MOST_THREADS ≤ length (threads_of acts) =
            omega (arith, ap length at.numbers, c.in_ok-place.ensures.index, full.1, place_of_new (nat_eq c.args.pid) c.args.self.now.pids.keys none) in
            no_new_row (facts_of acts no_more) c.args.pid MOST_THREADS (threads_of acts) (rows_kept c.args.self.now.kept.items) at.rows many
            ∙ ap (λ (pids : List ℕ). map (facts_of acts no_more) (take MOST_THREADS pids)) (sym (with_new c.args.pid (threads_of acts) room new)))
        | inr old ↦
            (let there : list_any (nat_eq c.args.pid) (threads_of acts) ≡ true =
            ap (list_any (nat_eq c.args.pid)) (sym at.numbers)
            ∙ is_there (list_any (nat_eq c.args.pid) c.args.self.now.pids.keys) (sym c.in_ok-place.ensures.added ∙ old) in
            at.rows ∙ ap (λ (pids : List ℕ). map (facts_of acts no_more) (take MOST_THREADS pids)) (sym (with_old c.args.pid (threads_of acts) room there)))
      ];
      different = c.in_ok-place.ensures.unique;
    }
