-- What was taken of a text of told ranges, and what is left of it.
use Rattle.std.proofs.Common.{drop_of_length-le, ◌==◌, ◌≡◌, ◌≢◌, ℕ, ◌+◌, ◌-◌, ◌<◌, ◌≤◌, List, [], ◌++◌, length, take, drop, get_or, refl, sym, ◌∙◌, ap, subst, arith, append_assoc, append-nil, Option, Some, None, Result, Ok, Err, IfOk, IfErr}
use Rattle.std.specs.Io.KnownBytes.{Consumes, IsAtEnd}
use Rattle.std.proofs.lemmas.Bool.{cond_both}
use Rattle.std.proofs.lemmas.List.{drop_more, length-append}
use Rattle.pci_spec.specs.Text.{BadSlot, BadTitle, BadLine, NoBlank, Order, TooMany, Ended}
use Rattle.judge_spec.specs.Told.{ToldRange, IsTold}
use Rattle.judge_spec.specs.ToldText.{IsToldTextOf}
use Rattle.judge_spec.specs.ToldForm.{Bus, Place, Digits, ToldSoFar, nothing_read, Step, Wrong, Goes, Ends, is_in_order, IsBegun, Reads, Reading, Stopped, line_number, take_byte, and_then, take_bytes, step, take_step}
use Rattle.judge_spec.proofs.ToldLines.{StaysBegun, stays_begun, nothing_begun}
use Rattle.judge_spec.proofs.ToldRows.{take_bytes-append, reading_of, whole_text}
use Rattle.judge_spec.proofs.ToldFaults.{fault_read, fault_at_end}
use Rattle.judge_spec.proofs.ToldLengths.{read_length, length_of, begun_read}
use Rattle.pci_dump.specs.declared.read_fault.ReadFault.{ReadFault}
use Rattle.pci_dump.specs.declared.read_fault.ReadFault.TheVariants as faults
use Rattle.pci_dump.specs.ToldFaults.{IsToldTextFault, StopsWith}
use Rattle.pci_dump.specs.ToldSteps.{AreTaken}

-- ---- bytes one after the other

-- the bytes from one on
one_more : (s : ToldSoFar) (bytes : List ℕ) (k : ℕ) → k < length bytes → take_bytes s (drop k bytes) ≡ and_then (take_byte s (get_or bytes k 0)) (λ t. take_bytes t (drop (k + 1) bytes))
unfolding take_bytes
one_more s bytes k less = ap (λ (t : List ℕ). take_bytes s t) (drop_more bytes k 0 less)

-- a line that is begun stays one behind each byte
abbrev BegunReads : Reads → Type 0
BegunReads (Reading s) = IsBegun s.line
BegunReads (Stopped f) = Unit {0}

begun_step : (ranges : List ToldRange) (place : Place) (x : Step) → StaysBegun x → BegunReads (take_step ranges place x)
begun_step ranges place Wrong h = tt
begun_step ranges place (Goes l) h = cond_both (is_in_order ranges l.place l.range) _ _ BegunReads (λ _. h) (λ _. tt)
begun_step ranges place (Ends r) h = nothing_begun

begun_byte : (s : ToldSoFar) (c : ℕ) → IsBegun s.line → BegunReads (take_byte s c)
unfolding take_byte
begun_byte s c h = cond_both (length s.ranges == 4096) _ _ BegunReads (λ _. tt) (λ _. begun_step s.ranges s.line.place (step s.line c) (stays_begun s.line c h))

pub taken_more : (old : ToldSoFar) (bytes : List ℕ) (k : ℕ) (s t : ToldSoFar) → AreTaken old bytes k s → k < length bytes → take_byte s (get_or bytes k 0) ≡ Reading t → AreTaken old bytes (k + 1) t
taken_more old bytes k s t h less e = record {
  rest = h.rest ∙ one_more s bytes k less ∙ ap (λ (x : Reads). and_then x (λ u. take_bytes u (drop (k + 1) bytes))) e;
  begun = subst BegunReads e (begun_byte s (get_or bytes k 0) h.begun);
}

pub taken_all : (old : ToldSoFar) (bytes : List ℕ) (k : ℕ) (s : ToldSoFar) → AreTaken old bytes k s → length bytes ≤ k → take_bytes old bytes ≡ Reading s
unfolding take_bytes
taken_all old bytes k s h over = h.rest ∙ ap (λ (t : List ℕ). take_bytes s t) (drop_of_length-le bytes over)

-- where a byte stops reading, the text of which it is one does
stops : (x y : Reads) (next : ToldSoFar → Reads) (f : ReadFault) → y ≡ and_then x next → StopsWith x f → StopsWith y f
stops x y next faults.Io e h = h
stops x y next faults.Memory e h = tt
stops x y next (faults.BadSlot n) e h = e ∙ ap (λ (z : Reads). and_then z next) h
stops x y next (faults.BadTitle n) e h = e ∙ ap (λ (z : Reads). and_then z next) h
stops x y next (faults.BadLine n) e h = e ∙ ap (λ (z : Reads). and_then z next) h
stops x y next (faults.NoBlank n) e h = e ∙ ap (λ (z : Reads). and_then z next) h
stops x y next (faults.Order n) e h = e ∙ ap (λ (z : Reads). and_then z next) h
stops x y next (faults.TooMany n) e h = e ∙ ap (λ (z : Reads). and_then z next) h
stops x y next (faults.Ended n) e h = e ∙ ap (λ (z : Reads). and_then z next) h

pub taken_fault : (old : ToldSoFar) (bytes : List ℕ) (k : ℕ) (s : ToldSoFar) (f : ReadFault) → AreTaken old bytes k s → k < length bytes → StopsWith (take_byte s (get_or bytes k 0)) f → StopsWith (take_bytes old bytes) f
taken_fault old bytes k s f h less e = stops (take_byte s (get_or bytes k 0)) (take_bytes old bytes) (λ t. take_bytes t (drop (k + 1) bytes)) f (h.rest ∙ one_more s bytes k less) e

-- ---- a whole text

-- what was consumed of a source was read
pub record IsReadOn (before left : Option (List ℕ)) (s : ToldSoFar) : Type 0 where
  pub consumed : List ℕ
  pub text : Consumes before left consumed
  pub all : take_bytes nothing_read consumed ≡ Reading s

pub read_none : (before : Option (List ℕ)) → IsReadOn before before nothing_read
unfolding take_bytes
read_none before = record { consumed = []; text = none before; all = refl } where
  none : (o : Option (List ℕ)) → Consumes o o []
  none None = tt
  none (Some xs) = refl

consumes_more : (o m n : Option (List ℕ)) (xs ys : List ℕ) → Consumes o m xs → Consumes m n ys → Consumes o n (xs ++ ys)
consumes_more None m n xs ys h k = tt
consumes_more (Some us) None n xs ys h k = absurd h
consumes_more (Some us) (Some vs) None xs ys h k = absurd k
consumes_more (Some us) (Some vs) (Some ws) xs ys h k = h ∙ ap (λ (t : List ℕ). xs ++ t) k ∙ sym (append_assoc xs ys ws)

then_reads : (xs ys : List ℕ) (s : ToldSoFar) → take_bytes nothing_read xs ≡ Reading s → take_bytes nothing_read (xs ++ ys) ≡ take_bytes s ys
then_reads xs ys s e = take_bytes-append nothing_read xs ys ∙ ap (λ (x : Reads). and_then x (λ t. take_bytes t ys)) e

pub read_more : (before middle left : Option (List ℕ)) (s t : ToldSoFar) (chunk : List ℕ) → IsReadOn before middle s → Consumes middle left chunk → take_bytes s chunk ≡ Reading t → IsReadOn before left t
read_more before middle left s t chunk r consumed e = record {
  consumed = r.consumed ++ chunk;
  text = consumes_more before middle left r.consumed chunk r.text consumed;
  all = then_reads r.consumed chunk s r.all ∙ e;
}

pub read_begun : (before left : Option (List ℕ)) (s : ToldSoFar) → IsReadOn before left s → IsBegun s.line
read_begun before left s r = begun_read r.consumed s r.all

-- whole lines are in their order
pub read_ranges : (before left : Option (List ℕ)) (s : ToldSoFar) → IsReadOn before left s → IsTold s.ranges
read_ranges before left s r = (reading_of r.consumed s r.all).told

-- each chunk brings the loop nearer to its end
pub read_further : (before middle left : Option (List ℕ)) (s t : ToldSoFar) (chunk : List ℕ) → IsReadOn before middle s → IsReadOn before left t → take_bytes s chunk ≡ Reading t → 0 < length chunk
    → 360537 - read_length t < 360537 - read_length s
read_further before middle left s t chunk r q e some =
    let a = length_of r.consumed s r.all in
    let b = length_of (r.consumed ++ chunk) t (then_reads r.consumed chunk s r.all ∙ e) in
    let l = length-append r.consumed chunk in
    let x = a.length_is in
    let y = b.length_is in
    let z = b.short in
    omega (arith, l, x, y, z, some)

-- the known bytes before and after a chunk
known_parts : (before middle left : Option (List ℕ)) (bytes xs chunk : List ℕ) → before ≡ Some bytes → Consumes before middle xs → Consumes middle left chunk → (rest : List ℕ) × (bytes ≡ (xs ++ chunk) ++ rest)
known_parts None middle left bytes xs chunk e c d = absurd cc
known_parts (Some us) None left bytes xs chunk e c d = absurd c
known_parts (Some us) (Some vs) None bytes xs chunk e c d = absurd d
known_parts (Some us) (Some vs) (Some ws) bytes xs chunk e c d = (ws, (let same : bytes ≡ us = cc in same) ∙ c ∙ ap (λ (t : List ℕ). xs ++ t) d ∙ sym (append_assoc xs chunk ws))

fault_of : (bytes more : List ℕ) (f : ReadFault) → f ≢ faults.Memory → StopsWith (take_bytes nothing_read bytes) f → IsToldTextFault (bytes ++ more) f
fault_of bytes more faults.Io other e = e
fault_of bytes more faults.Memory other e = absurd (other refl)
fault_of bytes more (faults.BadSlot n) other e = fault_read bytes more (BadSlot n) e
fault_of bytes more (faults.BadTitle n) other e = fault_read bytes more (BadTitle n) e
fault_of bytes more (faults.BadLine n) other e = fault_read bytes more (BadLine n) e
fault_of bytes more (faults.NoBlank n) other e = fault_read bytes more (NoBlank n) e
fault_of bytes more (faults.Order n) other e = fault_read bytes more (Order n) e
fault_of bytes more (faults.TooMany n) other e = fault_read bytes more (TooMany n) e
fault_of bytes more (faults.Ended n) other e = fault_read bytes more (Ended n) e

pub read_fault : (before middle left : Option (List ℕ)) (s : ToldSoFar) (chunk bytes : List ℕ) (f : ReadFault) → IsReadOn before middle s → Consumes middle left chunk → StopsWith (take_bytes s chunk) f → before ≡ Some bytes → f ≢ faults.Memory
    → IsToldTextFault bytes f
read_fault before middle left s chunk bytes f r consumed e known other =
    let p = known_parts before middle left bytes r.consumed chunk known r.text consumed in
    subst (λ (t : List ℕ). IsToldTextFault t f) (sym p.1) (fault_of (r.consumed ++ chunk) p.0 f other (subst (λ (x : Reads). StopsWith x f) (sym (then_reads r.consumed chunk s r.all)) e))

-- ---- at the end

at_end : (o m : Option (List ℕ)) (bytes xs : List ℕ) → o ≡ Some bytes → Consumes o m xs → IsAtEnd m → bytes ≡ xs
at_end None m bytes xs e c h = absurd cc
at_end (Some us) None bytes xs e c h = absurd c
at_end (Some us) (Some vs) bytes xs e c h = (let same : bytes ≡ us = cc in same) ∙ c ∙ ap (λ (t : List ℕ). xs ++ t) h ∙ append-nil xs

pub read_whole : (before left : Option (List ℕ)) (s : ToldSoFar) (bytes : List ℕ) → IsReadOn before left s → IsAtEnd left → before ≡ Some bytes → s.line.place ≡ Digits Bus 0 → IsToldTextOf bytes s.ranges
read_whole before left s bytes r end known start =
    subst (λ (t : List ℕ). IsToldTextOf t s.ranges) (sym (at_end before left bytes r.consumed known r.text end)) (whole_text r.consumed s (reading_of r.consumed s r.all) start)

pub read_ended : (before left : Option (List ℕ)) (s : ToldSoFar) (bytes : List ℕ) → IsReadOn before left s → IsAtEnd left → before ≡ Some bytes → (s.line.place ≡ Digits Bus 0 → ⊥) → IsToldTextFault bytes (faults.Ended (line_number s.ranges))
read_ended before left s bytes r end known begun =
    subst (λ (t : List ℕ). IsToldTextFault t (faults.Ended (line_number s.ranges))) (sym (at_end before left bytes r.consumed known r.text end)) (fault_at_end r.consumed s r.all begun)

-- nothing more was read
pub read_over : (before middle left : Option (List ℕ)) (s : ToldSoFar) (bytes : List ℕ) (n : ℕ) → IsReadOn before middle s → Consumes middle left (take n bytes) → n ≡ 0 → IsReadOn before left s
unfolding take_bytes
read_over before middle left s bytes n r consumed none = read_more before middle left s s [] r (subst (λ (k : ℕ). Consumes middle left (take k bytes)) none consumed) refl

-- ---- clauses of a result

pub ok_by : {X E : Type 0} (P Q : X → Type 0) (r : Result X E) → IfOk r P → ((x : X) → P x → Q x) → IfOk r Q
ok_by P Q (Ok x) h f = f x h
ok_by P Q (Err e) h f = h

pub err_by : {X E : Type 0} (P Q : E → Type 0) (r : Result X E) → IfErr r P → ((e : E) → P e → Q e) → IfErr r Q
err_by P Q (Ok x) h f = h
err_by P Q (Err e) h f = f e h
