-- How many bytes were read, by what was read of them, and how many that are at most.
use Rattle.std.proofs.Common.{◌≡◌, ℕ, suc, ◌+◌, ◌*◌, ◌≤◌, Bool, true, false, List, [], ◌∷◌, ◌++◌, length, ap, subst, arith, lit≤}
use Rattle.std.specs.List.{All}
use Rattle.std.proofs.lemmas.List.{length-append}
use Rattle.pci_spec.specs.System.{Space, Io, Memory}
use Rattle.pci_spec.specs.Line.{address_text}
use Rattle.pci_spec.proofs.HexNumbers.{length-hex_number}
use Rattle.judge_spec.specs.Told.{Mark, Command, Always, Held, ToldRange, IsToldLine, IsToldRange}
use Rattle.judge_spec.specs.ToldText.{space_word, mark_word, name_text, range_head, told_line, told_text}
use Rattle.judge_spec.specs.ToldForm.{Step, ToldSoFar, nothing_read, Reading, take_bytes, IsBegun}
use Rattle.judge_spec.proofs.ToldLines.{text_at, IsAt, IsRead, line_read}
use Rattle.judge_spec.proofs.ToldRows.{reading_of, front_of}

space_short : (space : Space) (prefetchable : Bool) → length (space_word space prefetchable) ≤ 4
space_short Io prefetchable = lit≤ tt
space_short Memory false = lit≤ tt
space_short Memory true = lit≤ tt

mark_short : (mark : Mark) → length (mark_word mark) ≤ 7
mark_short Command = lit≤ tt
mark_short Always = lit≤ tt
mark_short Held = lit≤ tt

address_short : (space : Space) (a : ℕ) → length (address_text space a) ≤ 16
address_short Io a = let l = length-hex_number 8 a in omega (arith, l)
address_short Memory a = let l = length-hex_number 16 a in omega (arith, l)

name_short : (name : List ℕ) → length name ≤ 32 → length (name_text name) ≤ 33
name_short [] few = lit≤ tt
name_short (c ∷ name) few = omega (arith, few)

head_short : (r : ToldRange) → length (range_head r) ≤ 46
head_short r =
    let word : List ℕ = space_word r.space r.prefetchable in
    let first : List ℕ = address_text r.space r.first in
    let last : List ℕ = address_text r.space r.last in
    let a = length-append word (32 ∷ (first ++ (45 ∷ last))) in
    let b = length-append first (45 ∷ last) in
    let s = space_short r.space r.prefetchable in
    let x = address_short r.space r.first in
    let y = address_short r.space r.last in
    omega (arith, a, b, s, x, y)

line_short : (r : ToldRange) → IsToldLine r → length (told_line r) ≤ 88
unfolding told_line
line_short r h =
    let a = length-append ((range_head r ++ (32 ∷ mark_word r.mark)) ++ name_text r.name) (10 ∷ []) in
    let b = length-append (range_head r ++ (32 ∷ mark_word r.mark)) (name_text r.name) in
    let c = length-append (range_head r) (32 ∷ mark_word r.mark) in
    let x = head_short r in
    let y = mark_short r.mark in
    let z = name_short r.name h.name.0 in
    omega (arith, a, b, c, x, y, z)

text_short : (ranges : List ToldRange) → All IsToldRange ranges → length (told_text ranges) ≤ 88 * length ranges
text_short [] each = lit≤ tt
text_short (r ∷ ranges) each =
    let one = line_short r (each 0 r (omega arith)).line in
    let more = text_short ranges (λ k d below. each (suc k) d (omega (arith, below))) in
    let all = length-append (told_line r) (told_text ranges) in
    omega (arith, one, more, all)

-- the length of what was read
abbrev pub read_length : ToldSoFar → ℕ
read_length s = length (told_text s.ranges) + length (text_at s.line.place s.line.number s.line.range)

-- that many bytes were read, and no more than these
pub record HasLength (bytes : List ℕ) (s : ToldSoFar) : Type 0 where
  pub length_is : length bytes ≡ read_length s
  pub short : length bytes ≤ 360536

pub length_of : (bytes : List ℕ) (s : ToldSoFar) → take_bytes nothing_read bytes ≡ Reading s → HasLength bytes s
length_of bytes s e =
    let h = reading_of bytes s e in
    let at : IsAt h.part s.line.place s.line.number s.line.range = subst (λ (x : Step). IsRead h.part x) h.line (line_read h.part) in
    let next = (front_of bytes s h).next in
    let a = ap length h.split in
    let b = length-append (told_text s.ranges) h.part in
    let c = ap length at.text in
    let d = text_short s.ranges h.told.each in
    let room = h.told.room in
    let whole = ap length next.1.whole in
    let f = length-append h.part next.1.rest in
    let g = line_short next.0 next.1.line in
    record { length_is = omega (arith, a, b, c); short = omega (arith, a, b, d, room, whole, f, g) }

-- what is read of a line is one that is begun
pub begun_read : (bytes : List ℕ) (s : ToldSoFar) → take_bytes nothing_read bytes ≡ Reading s → IsBegun s.line
begun_read bytes s e =
    let h = reading_of bytes s e in
    let at : IsAt h.part s.line.place s.line.number s.line.range = subst (λ (x : Step). IsRead h.part x) h.line (line_read h.part) in
    record { plain = at.plain; name = at.name; unnamed = at.unnamed; fits = at.fits }
