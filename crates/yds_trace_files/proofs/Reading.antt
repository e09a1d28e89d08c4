-- Reads of files, one behind the other.
use Rattle.base.proofs.Common.{◌≡◌, ◌∙◌, ℕ, List, [], ◌++◌, Option, Some, None, refl, sym, ap, subst, append-nil, append_assoc}
use Rattle.std.specs.Prelude.{◌-◌, ◌≢◌, slice_index}
use Rattle.std.specs.Io.KnownBytes.{Keeps, Consumes, IsAtEnd}
use Rattle.std.proofs.KnownBytes.{Keeps-trans}
use Rattle.yds_port.specs.declared.source.Taken.{Taken}
use Rattle.yds_port.specs.declared.source.Taken.TheVariants as taken
use Rattle.yds_port.specs.Count.{Rose}
use Rattle.yds_port.specs.Source.{Reads, ReadsFront}
use Rattle.yds_trace_files.specs.Joined.{joined, all_of, left_of, all_left, ahead_of, last_of, faults_of, ReadsOpened, StepsOn}
use Rattle.yds_trace_files.specs.declared.files.Files.{Files}
use Rattle.yds_trace_files.specs.declared.files.Step.TheVariants as steps

-- # What is left

-- what stays of one stays of both
pub both_keep : (a b c : Option (List ℕ)) → Keeps a b → Keeps (joined a c) (joined b c)
both_keep None b c keeps = tt
both_keep (Some xs) None c keeps = absurd keeps
both_keep (Some xs) (Some ys) None keeps = tt
both_keep (Some xs) (Some ys) (Some zs) keeps = ap (λ (front : List ℕ). front ++ zs) keeps

-- what is read of one is read of both
joined_consumes : (a b c : Option (List ℕ)) (bytes : List ℕ) → Consumes a b bytes → Consumes (joined a c) (joined b c) bytes
joined_consumes None b c bytes reads = tt
joined_consumes (Some xs) None c bytes reads = absurd reads
joined_consumes (Some xs) (Some ys) None bytes reads = tt
joined_consumes (Some xs) (Some ys) (Some zs) bytes reads = ap (λ (front : List ℕ). front ++ zs) reads ∙ append_assoc bytes ys zs

-- the next one in the place of one that is at its end
pub next_keeps : (a b c d : Option (List ℕ)) → IsAtEnd a → b ≡ c → Keeps (joined a (joined b d)) (joined c d)
next_keeps None b c d ended is = tt
next_keeps (Some xs) None c d ended is = subst (λ (one : Option (List ℕ)). Keeps (joined (Some xs) (joined None d)) (joined one d)) is tt
next_keeps (Some xs) (Some ys) c None ended is = subst (λ (one : Option (List ℕ)). Keeps (joined (Some xs) (joined (Some ys) None)) (joined one None)) is tt
next_keeps (Some xs) (Some ys) c (Some zs) ended is =
    subst (λ (one : Option (List ℕ)). Keeps (joined (Some xs) (joined (Some ys) (Some zs))) (joined one (Some zs))) is
    (sym (ap (λ (front : List ℕ). front ++ (ys ++ zs)) ended))

-- nothing is left of the last one
pub both_end : (a : Option (List ℕ)) → IsAtEnd a → IsAtEnd (joined a (Some []))
both_end None ended = tt
both_end (Some xs) ended = append-nil xs ∙ ended

-- # Reads

-- some bytes of the file that is open
pub bytes_read : (n : ℕ) (into : List ℕ) (a b c : Option (List ℕ)) (before now some : ℕ) → ReadsFront n into a b before now
    → ReadsFront n into (joined a c) (joined b c) some some
bytes_read n into a b c before now some reads = record {
  some = reads.some;
  within = reads.within;
  consumed = joined_consumes a b c _ reads.consumed;
  no_fault = refl;
}

kept_consumes : (a b c : Option (List ℕ)) (bytes : List ℕ) → Keeps a b → Consumes b c bytes → Consumes a c bytes
kept_consumes None b c bytes keeps reads = tt
kept_consumes (Some xs) None c bytes keeps reads = absurd keeps
kept_consumes (Some xs) (Some ys) None bytes keeps reads = absurd reads
kept_consumes (Some xs) (Some ys) (Some zs) bytes keeps reads = sym keeps ∙ reads

-- behind files that were at their end
pub read_behind : (r : Taken) (into : List ℕ) (opened a b c : Option (List ℕ)) (first mid last : ℕ) → Keeps a b → mid ≡ first → ReadsOpened r into opened b c mid last
    → ReadsOpened r into opened a c first last
read_behind (taken.Bytes n) into opened a b c first mid last keeps same reads = record {
  some = reads.some;
  within = reads.within;
  consumed = kept_consumes a b c _ keeps reads.consumed;
  no_fault = reads.no_fault ∙ same;
}
read_behind taken.End into opened a b c first mid last keeps same reads = (reads.0, Keeps-trans a b c keeps reads.1, reads.2 ∙ same)
read_behind taken.Failed into opened a b c first mid last keeps same reads =
    (Keeps-trans a b c keeps reads.0, subst (λ (count : ℕ). Rose count last) same reads.1)

-- what a read of all files is, where that of the one that is open isn't its end
pub read_all : (r : Taken) (into : List ℕ) (opened a b : Option (List ℕ)) (before now : ℕ) → (r ≡ taken.End → ⊥) → ReadsOpened r into opened a b before now
    → Reads r into a b before now
read_all (taken.Bytes n) into opened a b before now other reads = reads
read_all taken.End into opened a b before now other reads = absurd (other refl)
read_all taken.Failed into opened a b before now other reads = reads

-- # The loop

-- what was read so far, from the first file on, and nothing behind a last byte that is no line feed
pub record Goes {O S : Type 0} (holds : O → List ℕ → Option (List ℕ)) (left : S → Option (List ℕ)) (r : Taken) (into : List ℕ) (first now : Files O S) : Type 0 where
  pub reads : ReadsOpened r into (left_of left now.opened) (all_left holds left first) (all_left holds left now) (faults_of first) (faults_of now)
  pub ends : (n : ℕ) → r ≡ taken.Bytes n → last_of now ≡ slice_index into (n - 1)
  pub ahead : last_of first ≢ 10 → ahead_of now ≡ ahead_of first
  pub last : last_of first ≢ 10 → r ≡ taken.End → last_of now ≡ last_of first

module _ {O S : Type 0} (holds : O → List ℕ → Option (List ℕ)) (left : S → Option (List ℕ)) where
  pub begins : (r : Taken) (into : List ℕ) (first now : Files O S)
      → ReadsOpened r into (left_of left now.opened) (all_left holds left first) (all_left holds left now) (faults_of first) (faults_of now)
      → ((n : ℕ) → r ≡ taken.Bytes n → last_of now ≡ slice_index into (n - 1)) → ahead_of now ≡ ahead_of first → (r ≡ taken.End → last_of now ≡ last_of first)
      → Goes holds left r into first now
  begins r into first now reads ends ahead last = record { reads = reads; ends = ends; ahead = λ _. ahead; last = λ _. last }

  -- the next file was opened, and read
  pub goes_on : (r : Taken) (before into : List ℕ) (first now next new : Files O S) → Goes holds left taken.End before first now
      → StepsOn steps.Opened (all_left holds left now) (all_left holds left next) (faults_of now) (faults_of next) → last_of now ≡ 10
      → ReadsOpened r into (left_of left new.opened) (all_left holds left next) (all_left holds left new) (faults_of next) (faults_of new)
      → ((n : ℕ) → r ≡ taken.Bytes n → last_of new ≡ slice_index into (n - 1)) → Goes holds left r into first new
  goes_on r before into first now next new goes steps whole reads ends = record {
    reads = read_behind r into (left_of left new.opened) (all_left holds left first) (all_left holds left next) (all_left holds left new) (faults_of first) (faults_of next) (faults_of new)
        (Keeps-trans (all_left holds left first) (all_left holds left now) (all_left holds left next) goes.reads.1 steps.0) (steps.1 ∙ goes.reads.2) reads;
    ends = ends;
    ahead = λ cut. absurd (cut (sym (goes.last cut refl) ∙ whole));
    last = λ cut. absurd (cut (sym (goes.last cut refl) ∙ whole));
  }

  -- there is no next file
  pub ends_so : (into : List ℕ) (first now new : Files O S) → Goes holds left taken.End into first now
      → StepsOn steps.None (all_left holds left now) (all_left holds left new) (faults_of now) (faults_of new) → ahead_of now ≡ [] → ahead_of new ≡ ahead_of now
      → new.opened ≡ now.opened → Reads taken.End into (all_left holds left first) (all_left holds left new) (faults_of first) (faults_of new)
  ends_so into first now new goes steps none ahead opened = record {
    at_end = subst (λ (names : List (List ℕ)). IsAtEnd (joined (left_of left new.opened) (all_of (holds new.opens) names))) (sym (ahead ∙ none))
        (both_end (left_of left new.opened) (subst (λ (one : Option S). IsAtEnd (left_of left one)) (sym opened) goes.reads.0));
    kept = Keeps-trans (all_left holds left first) (all_left holds left now) (all_left holds left new) goes.reads.1 steps.0;
    no_fault = steps.1 ∙ goes.reads.2;
  }

  -- the step to the next file failed
  pub fails_so : (into : List ℕ) (first now new : Files O S) → Goes holds left taken.End into first now
      → StepsOn steps.Failed (all_left holds left now) (all_left holds left new) (faults_of now) (faults_of new)
      → Reads taken.Failed into (all_left holds left first) (all_left holds left new) (faults_of first) (faults_of new)
  fails_so into first now new goes steps = (
    Keeps-trans (all_left holds left first) (all_left holds left now) (all_left holds left new) goes.reads.1 steps.0,
    subst (λ (count : ℕ). Rose count (faults_of new)) goes.reads.2 steps.1,
  )
