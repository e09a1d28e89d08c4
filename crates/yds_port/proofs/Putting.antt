-- Texts that are put into a sink one after another.
use Rattle.base.proofs.Common.{◌≡◌, ℕ, suc, ◌+◌, ◌<◌, ◌≤◌, List, [], ◌∷◌, ◌++◌, ◌∙◌, ap, subst, sym, append_assoc, Option, Result, Ok, Err, IsErr, length, take, drop, get_or, take_all, take-append-drop, drop-cons, flat_map, flat_map-append, take_more, append-nil, Appends}
use Rattle.std.proofs.KnownBytes.{Appends-trans}
use Rattle.yds_port.specs.Count.{Rose}
use Rattle.yds_port.specs.Sink.{AppendsFront, Puts}

-- A text was put into a sink whole, with no fault.
pub record PutsWhole {K : Type 0} (written : K → Option (List ℕ)) (flushed : K → Option ℕ) (flushes faults : K → ℕ) (text : List ℕ) (old new : K) : Type 0 where
  pub appended : Appends (written old) (written new) text
  pub no_fault : faults new ≡ faults old
  pub flushed_stays : flushed new ≡ flushed old
  pub flushes_stay : flushes new ≡ flushes old

-- # One text

-- a call that didn't fail put its text whole
pub puts_whole : {K T E : Type 0} {written : K → Option (List ℕ)} {flushed : K → Option ℕ} {flushes faults : K → ℕ} {x : T} {put text : List ℕ} {a b : K}
    → put ≡ text → Puts {E = E} written flushed flushes faults (Ok x) put a b → PutsWhole written flushed flushes faults text a b
puts_whole {written = written} {a = a} {b = b} is done = record {
  appended = subst (Appends (written a) (written b)) is done.delivers.0;
  no_fault = done.delivers.1;
  flushed_stays = done.flushed_stays;
  flushes_stay = done.flushes_stay;
}

pub puts_done : {K T E : Type 0} {written : K → Option (List ℕ)} {flushed : K → Option ℕ} {flushes faults : K → ℕ} {x : T} {text : List ℕ} {a b : K}
    → PutsWhole written flushed flushes faults text a b → Puts {E = E} written flushed flushes faults (Ok x) text a b
puts_done whole = record {
  delivers = (whole.appended, whole.no_fault);
  flushed_stays = whole.flushed_stays;
  flushes_stay = whole.flushes_stay;
}

-- by another spelling of the text
pub puts_text : {K T E : Type 0} {written : K → Option (List ℕ)} {flushed : K → Option ℕ} {flushes faults : K → ℕ} {r : Result T E} {put text : List ℕ} {a b : K}
    → put ≡ text → Puts written flushed flushes faults r put a b → Puts written flushed flushes faults r text a b
puts_text {written = written} {flushed = flushed} {flushes = flushes} {faults = faults} {r = r} {a = a} {b = b} is done =
    subst (λ text. Puts written flushed flushes faults r text a b) is done

-- The call failed, and its caller fails with it: for an exit by `?`.
pub puts_failed : {K T S E F : Type 0} {written : K → Option (List ℕ)} {flushed : K → Option ℕ} {flushes faults : K → ℕ} {e : E} {put text : List ℕ} {a b : K}
    → (s : Result S F) → IsErr s → put ≡ text → Puts {T = T} written flushed flushes faults (Err e) put a b → Puts written flushed flushes faults s text a b
puts_failed {written = written} {a = a} {b = b} (Ok x) failed is part = cc
puts_failed {written = written} {a = a} {b = b} (Err f) failed is part = record {
  delivers = (subst (λ l. AppendsFront l (written a) (written b)) is part.delivers.0, part.delivers.1);
  flushed_stays = part.flushed_stays;
  flushes_stay = part.flushes_stay;
}

-- # One text after another

-- what is appended after a text that was appended whole
AppendsFront-after : (front back : List ℕ) (a b c : Option (List ℕ)) → Appends a b front → AppendsFront back b c → AppendsFront (front ++ back) a c
AppendsFront-after front back a b c first rest = record {
  front = front ++ rest.front;
  rest = rest.rest;
  is_front = ap (λ l. front ++ l) rest.is_front ∙ sym (append_assoc front rest.front rest.rest);
  appended = Appends-trans a b c front rest.front first rest.appended;
}

-- a front of a text is a front of a longer one
AppendsFront-longer : (front back : List ℕ) (a b : Option (List ℕ)) → AppendsFront front a b → AppendsFront (front ++ back) a b
AppendsFront-longer front back a b part = record {
  front = part.front;
  rest = part.rest ++ back;
  is_front = ap (λ l. l ++ back) part.is_front ∙ append_assoc part.front part.rest back;
  appended = part.appended;
}

-- the front failed, and so did the whole
pub puts_front : {K S F : Type 0} {written : K → Option (List ℕ)} {flushed : K → Option ℕ} {flushes faults : K → ℕ} {front : List ℕ} {a b : K}
    → (back : List ℕ) (s : Result S F) → IsErr s → Puts written flushed flushes faults s front a b → Puts written flushed flushes faults s (front ++ back) a b
puts_front {written = written} {a = a} {b = b} back (Ok x) failed part = cc
puts_front {written = written} {front = front} {a = a} {b = b} back (Err f) failed part = record {
  delivers = (AppendsFront-longer front back (written a) (written b) part.delivers.0, part.delivers.1);
  flushed_stays = part.flushed_stays;
  flushes_stay = part.flushes_stay;
}

-- the front was put whole, and then the back by the call's answer
pub puts_after : {K S F : Type 0} {written : K → Option (List ℕ)} {flushed : K → Option ℕ} {flushes faults : K → ℕ} {front back : List ℕ} {a b c : K}
    → (s : Result S F) → PutsWhole written flushed flushes faults front a b → Puts written flushed flushes faults s back b c
    → Puts written flushed flushes faults s (front ++ back) a c
puts_after {written = written} {front = front} {back = back} {a = a} {b = b} {c = c} (Ok x) first rest = record {
  delivers = (Appends-trans (written a) (written b) (written c) front back first.appended rest.delivers.0, rest.delivers.1 ∙ first.no_fault);
  flushed_stays = rest.flushed_stays ∙ first.flushed_stays;
  flushes_stay = rest.flushes_stay ∙ first.flushes_stay;
}
puts_after {written = written} {faults = faults} {front = front} {back = back} {a = a} {b = b} {c = c} (Err f) first rest = record {
  delivers = (
    AppendsFront-after front back (written a) (written b) (written c) first.appended rest.delivers.0,
    subst (λ before. Rose before (faults c)) first.no_fault rest.delivers.1,
  );
  flushed_stays = rest.flushed_stays ∙ first.flushed_stays;
  flushes_stay = rest.flushes_stay ∙ first.flushes_stay;
}

-- both were put whole
pub whole_after : {K : Type 0} {written : K → Option (List ℕ)} {flushed : K → Option ℕ} {flushes faults : K → ℕ} {front back : List ℕ} {a b c : K}
    → PutsWhole written flushed flushes faults front a b → PutsWhole written flushed flushes faults back b c → PutsWhole written flushed flushes faults (front ++ back) a c
whole_after {written = written} {front = front} {back = back} {a = a} {b = b} {c = c} first rest = record {
  appended = Appends-trans (written a) (written b) (written c) front back first.appended rest.appended;
  no_fault = rest.no_fault ∙ first.no_fault;
  flushed_stays = rest.flushed_stays ∙ first.flushed_stays;
  flushes_stay = rest.flushes_stay ∙ first.flushes_stay;
}

-- # The texts of the items of a list, in a loop over them

flat_map-more : {X : Type 0} (line : X → List ℕ) (xs : List X) (i : ℕ) (d x : X) → i < length xs → get_or xs i d ≡ x
    → flat_map line (take i xs) ++ line x ≡ flat_map line (take (i + 1) xs)
flat_map-more line xs i d x within item =
    sym (ap (flat_map line) (take_more xs i d within) ∙ flat_map-append line (take i xs) (get_or xs i d ∷ [])
    ∙ ap (λ l. flat_map line (take i xs) ++ l) (append-nil (line (get_or xs i d))) ∙ ap (λ y. flat_map line (take i xs) ++ line y) item)

flat_map-rest : {X : Type 0} (line : X → List ℕ) (xs : List X) (i : ℕ) (d x : X) → i < length xs → get_or xs i d ≡ x
    → (flat_map line (take i xs) ++ line x) ++ flat_map line (drop (suc i) xs) ≡ flat_map line xs
flat_map-rest line xs i d x within item =
    append_assoc (flat_map line (take i xs)) (line x) (flat_map line (drop (suc i) xs))
    ∙ ap (λ l. flat_map line (take i xs) ++ l) (sym (ap (flat_map line) (drop-cons xs i d within) ∙ ap (λ y. line y ++ flat_map line (drop (suc i) xs)) item))
    ∙ sym (flat_map-append line (take i xs) (drop i xs)) ∙ ap (flat_map line) (take-append-drop i xs)

-- one more item's text was put
pub item_put : {X K T E : Type 0} {written : K → Option (List ℕ)} {flushed : K → Option ℕ} {flushes faults : K → ℕ} {i : ℕ} {x : X} {text : List ℕ} {y : T} {a b c : K}
    → (line : X → List ℕ) (xs : List X) (d : X) → i < length xs → get_or xs i d ≡ x → text ≡ line x → PutsWhole written flushed flushes faults (flat_map line (take i xs)) a b
    → Puts {E = E} written flushed flushes faults (Ok y) text b c → PutsWhole written flushed flushes faults (flat_map line (take (i + 1) xs)) a c
item_put {written = written} {flushed = flushed} {flushes = flushes} {faults = faults} {i = i} {x = x} {a = a} {c = c} line xs d within item is before done =
    subst (λ text. PutsWhole written flushed flushes faults text a c) (flat_map-more line xs i d x within item) (whole_after before (puts_whole is done))

-- an item's text failed, and so did the whole
pub item_failed : {X K T E S F : Type 0} {written : K → Option (List ℕ)} {flushed : K → Option ℕ} {flushes faults : K → ℕ} {i : ℕ} {x : X} {text : List ℕ} {e : E} {a b c : K}
    → (line : X → List ℕ) (xs : List X) (d : X) (s : Result S F) → IsErr s → i < length xs → get_or xs i d ≡ x → text ≡ line x → PutsWhole written flushed flushes faults (flat_map line (take i xs)) a b
    → Puts {T = T} written flushed flushes faults (Err e) text b c → Puts written flushed flushes faults s (flat_map line xs) a c
item_failed {i = i} {x = x} line xs d s failed within item is before part =
    puts_text (flat_map-rest line xs i d x within item) (puts_front _ s failed (puts_after s before (puts_failed s failed is part)))

-- the texts of all items were put
pub all_put : {X K T E : Type 0} {written : K → Option (List ℕ)} {flushed : K → Option ℕ} {flushes faults : K → ℕ} {i : ℕ} {y : T} {a b : K}
    → (line : X → List ℕ) (xs : List X) → length xs ≤ i → PutsWhole written flushed flushes faults (flat_map line (take i xs)) a b
    → Puts {E = E} written flushed flushes faults (Ok y) (flat_map line xs) a b
all_put {i = i} line xs all whole = puts_text (ap (flat_map line) (take_all i xs all)) (puts_done whole)
