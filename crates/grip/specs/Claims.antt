-- REQUEST 11'S CLAIMS, over every call of `nearest_message` and `on_air`: the answer is fixed, 'none' is said exactly where no record qualifies, and the list holds exactly the messages on air.
-- `Call` (Nearest) and `Heard` are what the contracts ensure of a call; proofs/Contracts.antt takes them from the contracts themselves. Assumes nothing.
use Rattle.std.specs.Prelude.{ℕ, ◌<◌, ◌≡◌, true, Option, Result, List, [], length, get_or, Float}
use Rattle.std.proofs.lemmas.List.Edits.{sets}
use Rattle.limits.specs.Answer.{said, said_by, answer, accepted, number, leaves}
use Rattle.event_list.specs.Events.{events_of}
use Rattle.limits.specs.declared.Refusal.{Refusal}
use Rattle.grip.specs.Nearest.{found_or_none, at, none, IsNearest, NoneQualifies, nearest_cause, Call}
use Rattle.grip.specs.OnAir.{is_on_air, air_numbers, air_cause}

-- ---- the nearest message

-- two calls on the same list and numbers answer the same: what the contract says of the answer has one solution
abbrev pub SameAnswer : Type 0
SameAnswer = (l : List ℕ) (grip within : Float) (r r' : Result (Option ℕ) Refusal) → Call l grip within r → Call l grip within r' → said_by found_or_none r ≡ said_by found_or_none r'

-- a number that is said is the nearest message's
abbrev pub NumberIsNearest : Type 0
NumberIsNearest = (l : List ℕ) (grip within : Float) (r : Result (Option ℕ) Refusal) (i : ℕ) → Call l grip within r → said_by found_or_none r ≡ accepted (at i) → IsNearest grip within (events_of l) i

-- 'none, and then truly no record does'; and where no record does, none is said
pub record NoneExactly (l : List ℕ) (grip within : Float) (r : Result (Option ℕ) Refusal) : Type 0 where
  pub truly : said_by found_or_none r ≡ accepted none → NoneQualifies grip within (events_of l)
  pub always : nearest_cause l grip within ≡ 0 → NoneQualifies grip within (events_of l) → said_by found_or_none r ≡ accepted none

abbrev pub NoneIsTrue : Type 0
NoneIsTrue = (l : List ℕ) (grip within : Float) (r : Result (Option ℕ) Refusal) → Call l grip within r → NoneExactly l grip within r

-- ---- the messages on air

-- a call: the records, the instant, the lent list before and after it, and its answer
pub record Heard (l : List ℕ) (x : Float) (before after : List ℕ) (r : Result ℕ Refusal) : Type 0 where
  pub answered : said r ≡ answer (air_cause l x (length before)) (length (air_numbers x l))
  pub left : after ≡ leaves (number (said r)) (sets before 0 (air_numbers x l)) before

-- a place p of the first n that holds number i
pub record PlaceOf (numbers : List ℕ) (n i : ℕ) : Type 0 where
  pub place : ℕ
  pub inside : place < n
  pub holds : get_or numbers place 0 ≡ i

-- the first n numbers rise, are records' that are on air, and every record on air is there; where n is 0, truly no record is
pub record Listed (numbers : List ℕ) (n : ℕ) (x : Float) (es : List (List ℕ)) : Type 0 where
  pub rises : (p q : ℕ) → p < q → q < n → get_or numbers p 0 < get_or numbers q 0
  pub there : (p : ℕ) → p < n → get_or numbers p 0 < length es
  pub right : (p : ℕ) → p < n → is_on_air x (get_or es (get_or numbers p 0) []) ≡ true
  pub every : (i : ℕ) → i < length es → is_on_air x (get_or es i []) ≡ true → PlaceOf numbers n i

abbrev pub AllOnAir : Type 0
AllOnAir = (l : List ℕ) (x : Float) (before after : List ℕ) (r : Result ℕ Refusal) (n : ℕ) → Heard l x before after r → said r ≡ accepted n → Listed after n x (events_of l)
