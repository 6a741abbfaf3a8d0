-- Lines of two lists as one, in the order of slots.
use Rattle.std.proofs.Common.{◌≡◌, ℕ, zero, suc, ◌+◌, ◌*◌, ◌<◌, ◌≤◌, List, [], ◌∷◌, ◌++◌, Bool, true, false, length, map, get_or, take, drop, arith, refl, sym, ◌∙◌, ap, subst, ◌-◌}
use Rattle.std.specs.Prelude.{nat_le, if◌then◌else◌}
use Rattle.std.specs.List.{flat_map}
use Rattle.std.proofs.lemmas.Bool.{both_ways}
use Rattle.std.proofs.lemmas.List.{length-append, map-append, map_push, take_more, flat_map_more, get_or-drop, drop-drop, append_assoc, length-take-le, length-map, take_rest}
use Rattle.pci_spec.specs.Slot.{Slot, slot_number}
use Rattle.pci_spec.specs.System as space
use Rattle.pci_base.specs.declared.range.Range.{Range}
use Rattle.judge_spec.specs.Given as spec
use Rattle.judge_spec.specs.Told.{ToldRange}
use Rattle.pci_claims.specs.declared.given.LegacyBridge.{LegacyBridge}
use Rattle.pci_claims.specs.declared.legacy.FixedPart.TheVariants.{Legacy, Palette}
use Rattle.pci_claims.specs.Legacy.{blocks_of, vga_low, vga_high, palette_low, palette_high}
use Rattle.pci_claims.specs.Values.{legacy_value}
use Rattle.pci_model_settle.specs.declared.claim_lines.Line.{Line as CodeLine}
use Rattle.pci_model_settle.specs.declared.claim_lines.Origin.{Origin}
use Rattle.pci_model_settle.specs.declared.claim_lines.Origin.TheVariants.{Bridge}
use Rattle.pci_model_settle.specs.ClaimLines.{LinesWithOrigins, Line, claim_line, claim_lines, held, joined, kept_lines, line_key, lines_with, merged_by_key, own_lines, part_lines, port_lines, ports_of_kb, line_ranges, told_line_of, told_lines}
use Rattle.pci_model_settle.specs.LineValues.{AddsClaims, is_next, kept_code_lines, key_of, line_value, code_line_ranges}

-- ---- two lists as one

pub merged_none : {X : Type 0} (key : X → ℕ) (xs : List X) → merged_by_key key xs [] ≡ xs
merged_none key [] = refl
merged_none key (x ∷ xs) = refl

length_of_either : {X : Type 0} (t : Bool) (x y : X) (xs ys : List X) (n : ℕ) → length xs ≡ n → length ys ≡ n → length (if t then x ∷ xs else y ∷ ys) ≡ suc n
length_of_either true x y xs ys n h k = ap suc h
length_of_either false x y xs ys n h k = ap suc k

pub merged_length : {X : Type 0} (key : X → ℕ) (xs ys : List X) → length (merged_by_key key xs ys) ≡ length xs + length ys
merged_length key [] ys = omega arith
merged_length key (x ∷ xs) [] = omega arith
merged_length key (x ∷ xs) (y ∷ ys) =
    let second = merged_length key (x ∷ xs) ys in
    let same : length (merged_by_key key (x ∷ xs) ys) ≡ length xs + suc (length ys) = omega (arith, second) in
    let e : suc (length xs + suc (length ys)) ≡ suc (length xs) + suc (length ys) = omega arith in
    length_of_either (nat_le (key x) (key y)) x y (merged_by_key key xs (y ∷ ys)) (merged_by_key key (x ∷ xs) ys) (length xs + suc (length ys)) (merged_length key xs (y ∷ ys)) same ∙ e

map_of_either : {X Y : Type 0} (f : X → Y) (t : Bool) (x y : X) (xs ys : List X) (us vs : List Y) → map f xs ≡ us → map f ys ≡ vs
    → map f (if t then x ∷ xs else y ∷ ys) ≡ (if t then f x ∷ us else f y ∷ vs)
map_of_either f true x y xs ys us vs h k = ap (λ zs. f x ∷ zs) h
map_of_either f false x y xs ys us vs h k = ap (λ zs. f y ∷ zs) k

pub map_merged : {X Y : Type 0} (f : X → Y) (key : Y → ℕ) (xs ys : List X) → map f (merged_by_key (λ x. key (f x)) xs ys) ≡ merged_by_key key (map f xs) (map f ys)
map_merged f key [] ys = refl
map_merged f key (x ∷ xs) [] = refl
map_merged f key (x ∷ xs) (y ∷ ys) =
    map_of_either f (nat_le (key (f x)) (key (f y))) x y (merged_by_key (λ z. key (f z)) xs (y ∷ ys)) (merged_by_key (λ z. key (f z)) (x ∷ xs) ys) _ _
    (map_merged f key xs (y ∷ ys)) (map_merged f key (x ∷ xs) ys)

-- ---- one line on

pub next_some : (xs ys : List CodeLine) → is_next xs ys ≡ true → 0 < length xs + length ys → 0 < length xs
next_some [] [] next some = absurd (let no : ⊥ = omega (arith, some) in no)
next_some [] (y ∷ ys) next some = absurd (both_ways _ refl next)
next_some (x ∷ xs) ys next some = omega arith

pub other_some : (xs ys : List CodeLine) → is_next xs ys ≡ false → 0 < length ys
other_some xs [] other = absurd (both_ways _ other refl)
other_some xs (y ∷ ys) other = omega arith

either_true : {X : Type 0} (t : Bool) (xs ys : List X) → t ≡ true → (if t then xs else ys) ≡ xs
either_true true xs ys h = refl
either_true false xs ys h = absurd (both_ways _ refl h)

either_false : {X : Type 0} (t : Bool) (xs ys : List X) → t ≡ false → (if t then xs else ys) ≡ ys
either_false true xs ys h = absurd (both_ways _ h refl)
either_false false xs ys h = refl

next_is : (xs ys : List CodeLine) (d : CodeLine) → is_next xs ys ≡ true → 0 < length xs + length ys → merged_by_key key_of xs ys ≡ get_or xs 0 d ∷ merged_by_key key_of (drop 1 xs) ys
next_is [] [] d next some = absurd (let no : ⊥ = omega (arith, some) in no)
next_is [] (y ∷ ys) d next some = absurd (both_ways _ refl next)
next_is (x ∷ xs) [] d next some = ap (λ zs. x ∷ zs) (sym (merged_none key_of xs))
next_is (x ∷ xs) (y ∷ ys) d next some = either_true (nat_le (key_of x) (key_of y)) (x ∷ merged_by_key key_of xs (y ∷ ys)) (y ∷ merged_by_key key_of (x ∷ xs) ys) next

other_is : (xs ys : List CodeLine) (d : CodeLine) → is_next xs ys ≡ false → merged_by_key key_of xs ys ≡ get_or ys 0 d ∷ merged_by_key key_of xs (drop 1 ys)
other_is xs [] d other = absurd (both_ways _ other refl)
other_is [] (y ∷ ys) d other = refl
other_is (x ∷ xs) (y ∷ ys) d other = either_false (nat_le (key_of x) (key_of y)) (x ∷ merged_by_key key_of xs (y ∷ ys)) (y ∷ merged_by_key key_of (x ∷ xs) ys) other

pub next_of_rest : (xs ys : List CodeLine) (i j : ℕ) → is_next (take (length xs - i) (drop i xs)) (take (length ys - j) (drop j ys)) ≡ is_next (drop i xs) (drop j ys)
next_of_rest xs ys i j = ap (λ zs. is_next zs (take (length ys - j) (drop j ys))) (take_rest xs i) ∙ ap (is_next (drop i xs)) (take_rest ys j)

at_start : {X : Type 0} (xs : List X) (i : ℕ) (d : X) → get_or (drop i xs) 0 d ≡ get_or xs i d
at_start xs i d = let e : i + 0 ≡ i = omega arith in get_or-drop i xs 0 d ∙ ap (λ k. get_or xs k d) e

pushed : {X : Type 0} (out out' rest more all : List X) (x : X) → out ++ rest ≡ all → rest ≡ x ∷ more → out' ≡ out ++ x ∷ [] → out' ++ more ≡ all
pushed out out' rest more all x h e p = ap (λ zs. zs ++ more) p ∙ append_assoc out (x ∷ []) more ∙ sym (ap (λ zs. out ++ zs) e) ∙ h

pub first_pushed : (xs ys out out' all : List CodeLine) (i j : ℕ) (d : CodeLine) → is_next (drop i xs) (drop j ys) ≡ true → 0 < length (drop i xs) + length (drop j ys)
    → out ++ merged_by_key key_of (drop i xs) (drop j ys) ≡ all → out' ≡ out ++ get_or xs i d ∷ [] → out' ++ merged_by_key key_of (drop (i + 1) xs) (drop j ys) ≡ all
first_pushed xs ys out out' all i j d next some h p =
    pushed out out' (merged_by_key key_of (drop i xs) (drop j ys)) (merged_by_key key_of (drop (i + 1) xs) (drop j ys)) all (get_or xs i d) h
    (next_is (drop i xs) (drop j ys) d next some
    ∙ ap (λ x. x ∷ merged_by_key key_of (drop 1 (drop i xs)) (drop j ys)) (at_start xs i d)
    ∙ ap (λ zs. get_or xs i d ∷ merged_by_key key_of zs (drop j ys)) (drop-drop 1 i xs)) p

pub second_pushed : (xs ys out out' all : List CodeLine) (i j : ℕ) (d : CodeLine) → is_next (drop i xs) (drop j ys) ≡ false
    → out ++ merged_by_key key_of (drop i xs) (drop j ys) ≡ all → out' ≡ out ++ get_or ys j d ∷ [] → out' ++ merged_by_key key_of (drop i xs) (drop (j + 1) ys) ≡ all
second_pushed xs ys out out' all i j d other h p =
    pushed out out' (merged_by_key key_of (drop i xs) (drop j ys)) (merged_by_key key_of (drop i xs) (drop (j + 1) ys)) all (get_or ys j d) h
    (other_is (drop i xs) (drop j ys) d other
    ∙ ap (λ x. x ∷ merged_by_key key_of (drop i xs) (drop 1 (drop j ys))) (at_start ys j d)
    ∙ ap (λ zs. get_or ys j d ∷ merged_by_key key_of (drop i xs) zs) (drop-drop 1 j ys)) p

-- ---- a user's lines

pub told_push : (n : ℕ) (xs : List ToldRange) (x : ToldRange) → told_lines n (xs ++ x ∷ []) ≡ told_lines n xs ++ told_line_of (n + length xs) x ∷ []
told_push n [] x = let e : n ≡ n + 0 = omega arith in ap (λ k. told_line_of k x ∷ []) e
told_push n (y ∷ ys) x =
    let e : suc n + length ys ≡ n + suc (length ys) = omega arith in
    ap (λ ls. told_line_of n y ∷ ls) (told_push (suc n) ys x ∙ ap (λ k. told_lines (suc n) ys ++ told_line_of k x ∷ []) e)

pub told_more : (ranges : List ToldRange) (i n : ℕ) (r : ToldRange) (out new : List CodeLine) (v : CodeLine) → i < length ranges → r ≡ get_or ranges i r
    → map line_value out ≡ told_lines 1 (take i ranges) → n ≡ i → line_value v ≡ told_line_of (n + 1) r → new ≡ out ++ v ∷ [] → map line_value new ≡ told_lines 1 (take (i + 1) ranges)
told_more ranges i n r out new v within at h same ev en =
    let size = length-take-le i ranges (omega (arith, within)) in
    let e : n + 1 ≡ 1 + length (take i ranges) = omega (arith, size, same) in
    ap (map line_value) en ∙ map_push line_value out v ∙ ap (λ z. map line_value out ++ z ∷ []) ev
    ∙ ap (λ ls. ls ++ told_line_of (n + 1) r ∷ []) h
    ∙ ap (λ k. told_lines 1 (take i ranges) ++ told_line_of k r ∷ []) e
    ∙ sym (told_push 1 (take i ranges) r)
    ∙ ap (told_lines 1) (sym (take_more ranges i r within ∙ ap (λ (x : ToldRange). take i ranges ++ x ∷ []) (sym at)))

-- ---- parts of bridges

pub ports_length : (slot : Slot) (low high : Range) (kb : ℕ) → length (port_lines slot low high kb) ≡ 2 * kb
ports_length slot low high zero = refl
ports_length slot low high (suc kb) =
    let size = length-append (port_lines slot low high kb) (ports_of_kb slot kb low ∷ ports_of_kb slot kb high ∷ []) in
    let less = ports_length slot low high kb in
    omega (arith, size, less)

pub legacy_length : (b : spec.LegacyBridge) → length (part_lines Legacy b) ≡ 2 * blocks_of b.is_wide + 1
legacy_length b =
    let ports = ports_length b.slot vga_low vga_high (blocks_of b.is_wide) in
    let size = length-append (port_lines b.slot vga_low vga_high (blocks_of b.is_wide)) (held b.slot space.Memory 0xa0000 0xbffff ∷ []) in
    omega (arith, ports, size)

pub palette_length : (b : spec.LegacyBridge) → length (part_lines Palette b) ≡ 2 * blocks_of b.is_wide
palette_length b = ports_length b.slot palette_low palette_high (blocks_of b.is_wide)

-- what two ranges of ports add
pub ports_more : (old out mid new : List CodeLine) (slot : Slot) (low high : Range) (kb : ℕ) (v w : CodeLine) → AddsClaims old out (port_lines slot low high kb)
    → line_value v ≡ claim_line (ports_of_kb slot kb low) → line_value w ≡ claim_line (ports_of_kb slot kb high) → mid ≡ out ++ v ∷ [] → new ≡ mid ++ w ∷ []
    → AddsClaims old new (port_lines slot low high (kb + 1))
ports_more old out mid new slot low high kb v w h ev ew em en =
    let ports = port_lines slot low high kb in
    let a = ports_of_kb slot kb low in
    let b = ports_of_kb slot kb high in
    let first : map line_value mid ≡ map line_value out ++ claim_line a ∷ [] = ap (map line_value) em ∙ map_push line_value out v ∙ ap (λ z. map line_value out ++ z ∷ []) ev in
    let second : map line_value new ≡ map line_value mid ++ claim_line b ∷ [] = ap (map line_value) en ∙ map_push line_value mid w ∙ ap (λ z. map line_value mid ++ z ∷ []) ew in
    let whole : map claim_line (ports ++ a ∷ b ∷ []) ≡ map claim_line ports ++ claim_line a ∷ claim_line b ∷ [] = map-append claim_line ports (a ∷ b ∷ []) in
    let e : suc kb ≡ kb + 1 = omega arith in
    subst (λ n. AddsClaims old new (port_lines slot low high n)) e
    (second ∙ ap (λ zs. zs ++ claim_line b ∷ []) (first ∙ ap (λ zs. zs ++ claim_line a ∷ []) h)
    ∙ ap (λ zs. zs ++ claim_line b ∷ []) (append_assoc (map line_value old) (map claim_line ports) (claim_line a ∷ []))
    ∙ append_assoc (map line_value old) (map claim_line ports ++ claim_line a ∷ []) (claim_line b ∷ [])
    ∙ ap (λ zs. map line_value old ++ zs) (append_assoc (map claim_line ports) (claim_line a ∷ []) (claim_line b ∷ []) ∙ sym whole))

-- the frame buffer behind ports
pub line_more : (old out new : List CodeLine) (ports : List ToldRange) (r : ToldRange) (v : CodeLine) → AddsClaims old out ports → line_value v ≡ claim_line r → new ≡ out ++ v ∷ []
    → AddsClaims old new (ports ++ r ∷ [])
line_more old out new ports r v h ev en =
    ap (map line_value) en ∙ map_push line_value out v ∙ ap (λ z. map line_value out ++ z ∷ []) ev
    ∙ ap (λ zs. zs ++ claim_line r ∷ []) h ∙ append_assoc (map line_value old) (map claim_line ports) (claim_line r ∷ [])
    ∙ ap (λ zs. map line_value old ++ zs) (sym (map-append claim_line ports (r ∷ [])))

pub claims_more : (f : spec.LegacyBridge → List ToldRange) (bs : List LegacyBridge) (i : ℕ) (d : LegacyBridge) → i < length bs
    → flat_map f (map legacy_value (take (i + 1) bs)) ≡ flat_map f (map legacy_value (take i bs)) ++ f (legacy_value (get_or bs i d))
claims_more f bs i d within =
    ap (λ xs. flat_map f (map legacy_value xs)) (take_more bs i d within)
    ∙ ap (flat_map f) (map_push legacy_value (take i bs) (get_or bs i d))
    ∙ sym (flat_map_more f [] (map legacy_value (take i bs)) (legacy_value (get_or bs i d)))

-- what a bridge of some has, behind what those before it have, is no more than all have
pub lines_within : (f : spec.LegacyBridge → List ToldRange) (bs : List LegacyBridge) (i : ℕ) (d : LegacyBridge) → i < length bs
    → length (flat_map f (map legacy_value (take i bs))) + length (f (legacy_value (get_or bs i d))) ≤ length (flat_map f (map legacy_value bs))
lines_within f [] i d within = absurd (let no : ⊥ = omega (arith, within) in no)
lines_within f (b ∷ bs) zero d within = let size = length-append (f (legacy_value b)) (flat_map f (map legacy_value bs)) in omega (arith, size)
lines_within f (b ∷ bs) (suc i) d within =
    let more = lines_within f bs i d (omega (arith, within)) in
    let part = length-append (f (legacy_value b)) (flat_map f (map legacy_value (take i bs))) in
    let size = length-append (f (legacy_value b)) (flat_map f (map legacy_value bs)) in
    omega (arith, more, part, size)

-- ---- lines as they are kept

same_length : {X Y Z : Type 0} (f : X → Z) (g : Y → Z) (xs : List X) (ys : List Y) → map f xs ≡ map g ys → length xs ≡ length ys
same_length f g xs ys e = sym (length-map xs f) ∙ ap length e ∙ length-map ys g

pub claims_size : (claims : List ToldRange) (xs : List CodeLine) → map line_value xs ≡ map claim_line claims → length xs ≡ length claims
claims_size claims xs e = same_length line_value claim_line xs claims e

pub claims_merged : (legacy palette : List spec.LegacyBridge) (xs ys out : List CodeLine) → map line_value xs ≡ map claim_line (flat_map (part_lines Legacy) legacy)
    → map line_value ys ≡ map claim_line (flat_map (part_lines Palette) palette) → out ≡ merged_by_key key_of xs ys → map line_value out ≡ map claim_line (claim_lines legacy palette)
claims_merged legacy palette xs ys out ex ey e =
    ap (map line_value) e ∙ map_merged line_value (λ (l : Line). slot_number l.range.slot) xs ys
    ∙ ap (λ zs. merged_by_key (λ (l : Line). slot_number l.range.slot) zs (map line_value ys)) ex
    ∙ ap (merged_by_key (λ (l : Line). slot_number l.range.slot) (map claim_line (flat_map (part_lines Legacy) legacy))) ey
    ∙ sym (map_merged claim_line (λ (l : Line). slot_number l.range.slot) (flat_map (part_lines Legacy) legacy) (flat_map (part_lines Palette) palette))

pub joined_is : (claims : List ToldRange) (xs ys out : List CodeLine) → map line_value ys ≡ map claim_line claims → out ≡ merged_by_key key_of xs ys → map line_value out ≡ joined (map line_value xs) claims
joined_is claims xs ys out ey e = ap (map line_value) e ∙ map_merged line_value line_key xs ys ∙ ap (merged_by_key line_key (map line_value xs)) ey

pub own_is : (ranges : List ToldRange) (xs ys out : List CodeLine) → map line_value xs ≡ told_lines 1 ranges → out ≡ merged_by_key key_of xs ys → map line_value out ≡ own_lines ranges (map line_value ys)
own_is ranges xs ys out ex e = ap (map line_value) e ∙ map_merged line_value line_key xs ys ∙ ap (λ zs. merged_by_key line_key zs (map line_value ys)) ex

map_twice : {X Y Z : Type 0} (f : X → Y) (g : Y → Z) (xs : List X) → map (λ x. g (f x)) xs ≡ map g (map f xs)
map_twice f g [] = refl
map_twice f g (x ∷ xs) = ap (λ zs. g (f x) ∷ zs) (map_twice f g xs)

pub ranges_of_lines : (xs : List CodeLine) → code_line_ranges xs ≡ line_ranges (map line_value xs)
ranges_of_lines xs = map_twice line_value (λ (l : Line). l.range) xs

pub ranges_are : (lines : List Line) (claims : List ToldRange) (out : List CodeLine) → map line_value out ≡ joined lines claims → code_line_ranges out ≡ lines_with lines claims
ranges_are lines claims out e = ranges_of_lines out ∙ ap line_ranges e

abbrev kept : List ToldRange → List Origin → LinesWithOrigins
kept told origins = record { told = told; origins = Bridge ∷ origins }

pub kept_are : (lines : List Line) (claims : List ToldRange) (out : List CodeLine) → map line_value out ≡ joined lines claims → kept_code_lines out ≡ kept_lines lines claims
kept_are lines claims out e =
    ap (λ (told : List ToldRange). kept told (map (λ (l : CodeLine). (line_value l).origin) out)) (ranges_are lines claims out e)
    ∙ ap (λ (origins : List Origin). kept (lines_with lines claims) origins) (map_twice line_value (λ (l : Line). l.origin) out ∙ ap (map (λ (l : Line). l.origin)) e)
