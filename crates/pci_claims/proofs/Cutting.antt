-- What ISA Enable leaves of I/O windows.
use Rattle.std.proofs.Common.{◌≡◌, ℕ, ◌+◌, ◌*◌, ◌%◌, ◌^◌, ◌<◌, ◌≤◌, ◌⊎◌, List, [], ◌∷◌, ◌++◌, length, get_or, Bool, true, false, ◌&&◌, not, nat_lt, nat_le, inl, inr, arith, subst, sym, ◌∙◌, ap, refl}
use Rattle.std.specs.Prelude.{◌↔◌, IsTrue, IsFalse}
use Rattle.std.proofs.lemmas.Bool.{and_from, and_parts, both_ways, cases_Bool, cases_lt, leb-true, le-leb, ltb-true, lt-ltb}
use Rattle.pci_spec.specs.Slot.{Slot}
use Rattle.pci_spec.specs.System.{Space, Io, Memory, window_space}
use Rattle.pci_spec.specs.Window.{WindowKind}
use Rattle.pci_base.specs.declared.range.Range.{Range}
use Rattle.pci_function.specs.declared.record.Record.{Record}
use Rattle.pci_function.specs.Values.{record_value}
use Rattle.pci_tree.specs.Passes.{record_passes}
use Rattle.pci_tree.specs.Ranges.{Holds, Covers, IsCanonical}
use Rattle.pci_tree.specs.declared.region.Region.{Region}
use Rattle.pci_tree.specs.Regions.{is_of_window}
use Rattle.pci_tree.proofs.Passing.{covers_push, canonical_push}
use Rattle.pci_tree.proofs.RangeLists.{found_at}
use Rattle.judge_spec.specs.Given.{Given, is_isa_port, is_cut}
use Rattle.pci_claims.specs.Gathered.{IsCommon}
use Rattle.pci_claims.specs.Isa.{cuts, is_cut_region, ArePortBlocks, ArePortsKept, AreLeftByIsa}
use Rattle.pci_claims.specs.Passed.{window_passes, ArePassedByWindows}
use Rattle.pci_claims.specs.Claim.{AreAddressesOf, is_cut_from}
use Rattle.pci_claims.proofs.Gathering.{none_covered, nil_canonical}
use Rattle.pci_claims.proofs.Claiming.{up_to_the_last}

-- ---- ports

-- what it takes and what it leaves
taken : (a : ℕ) → a < 65536 → 256 ≤ a % 1024 → is_isa_port a ≡ true
taken a low high = and_from (nat_lt a (2 ^ 16)) (nat_le 0x100 (a % 0x400)) (lt-ltb _ _ low) (le-leb _ _ high)

is_taken : (a : ℕ) → is_isa_port a ≡ true → (a < 65536) × (256 ≤ a % 1024)
is_taken a h = (let parts = and_parts (nat_lt a (2 ^ 16)) (nat_le 0x100 (a % 0x400)) h in (ltb-true _ _ parts.0, leb-true _ _ parts.1))

pub left_where : (a : ℕ) → (65536 ≤ a) ⊎ (a % 1024 < 256) → is_isa_port a ≡ false
left_where a where_it_is = elim (cases_Bool (is_isa_port a)) [
  | inr left ↦ left
  | inl taken ↦ absurd (let is = is_taken a taken in let no : ⊥ = elim where_it_is [ inl high ↦ omega (arith, is, high) | inr low ↦ omega (arith, is, low) ] in no)
]

is_left : (a : ℕ) → is_isa_port a ≡ false → (65536 ≤ a) ⊎ (a % 1024 < 256)
is_left a left = elim (cases_lt a 65536) [
  | inr high ↦ inl high
  | inl low ↦ elim (cases_lt (a % 1024) 256) [ inl first ↦ inr first | inr behind ↦ absurd (both_ways _ left (taken a low behind)) ]
]

pub no_blocks : ArePortBlocks 0 []
no_blocks = record {
  canonical = nil_canonical;
  exact = λ a. (
    λ (h : Covers [] a). absurd (none_covered a h),
    λ (h : (a < 0 * 0x400) × (a % 0x400 < 0x100)). (let less = h.0 in absurd (omega (arith, less))),
  );
}

pub more_blocks : (n : ℕ) (out new : List Range) (v : Range) → ArePortBlocks n out → v.first ≡ n * 0x400 → v.last ≡ n * 0x400 + 0xff → new ≡ out ++ v ∷ [] → ArePortBlocks (n + 1) new
more_blocks n out new v is first last e = subst (λ xs. ArePortBlocks (n + 1) xs) (sym e) record {
  canonical = canonical_push out v is.canonical (omega (arith, first, last)) (λ a h. let was = (is.exact a).0 h in let less = was.0 in let low = was.1 in omega (arith, less, low, first));
  exact = λ a. (
    λ (h : Covers (out ++ v ∷ []) a). elim ((covers_push out v a).0 h) [
      | inl before ↦ (let was = (is.exact a).0 before in (let less = was.0 in omega (arith, less), was.1))
      | inr held ↦ (omega (arith, held, last), omega (arith, held, first, last))
    ],
    λ (h : (a < (n + 1) * 0x400) × (a % 0x400 < 0x100)). (covers_push out v a).1 (elim (cases_lt a (n * 0x400)) [
      | inl low ↦ inl ((is.exact a).1 (low, h.1))
      | inr ge ↦ inr (let less = h.0 in let port = h.1 in (omega (arith, less, ge, port, first), omega (arith, less, ge, port, last)))
    ]),
  );
}

pub blocks_alone : (last n : ℕ) (out : List Range) → last < 65536 → last < n * 1024 → ArePortBlocks n out → ArePortsKept last out
blocks_alone last n out low end is = record {
  canonical = is.canonical;
  exact = λ a up. (
    λ (h : Covers out a). left_where a (inr ((is.exact a).0 h).1),
    λ (h : is_isa_port a ≡ false). (is.exact a).1 (
      omega (arith, up, end),
      elim (is_left a h) [ inl high ↦ absurd (let no : ⊥ = omega (arith, high, up, low) in no) | inr first ↦ first ],
    ),
  );
}

pub blocks_and_more : (last : ℕ) (out new : List Range) (v : Range) → 65536 ≤ last → ArePortBlocks 64 out → v.first ≡ 65536 → v.last ≡ last → new ≡ out ++ v ∷ [] → ArePortsKept last new
blocks_and_more last out new v high is first end e = subst (λ xs. ArePortsKept last xs) (sym e) record {
  canonical = canonical_push out v is.canonical (omega (arith, first, end, high)) (λ a h. let was = (is.exact a).0 h in let less = was.0 in let low = was.1 in omega (arith, less, low, first));
  exact = λ a up. (
    λ (h : Covers (out ++ v ∷ []) a). elim ((covers_push out v a).0 h) [
      | inl before ↦ left_where a (inr ((is.exact a).0 before).1)
      | inr held ↦ left_where a (inl (omega (arith, held, first)))
    ],
    λ (h : is_isa_port a ≡ false). (covers_push out v a).1 (elim (cases_lt a 65536) [
      | inl low ↦ inl ((is.exact a).1 (omega (arith, low), elim (is_left a h) [ inl above ↦ absurd (let no : ⊥ = omega (arith, low, above) in no) | inr port ↦ port ]))
      | inr ge ↦ inr (omega (arith, ge, first), omega (arith, up, end))
    ]),
  );
}

-- ---- ranges

pub nothing_kept : AreLeftByIsa [] []
nothing_kept = record {
  canonical = nil_canonical;
  exact = λ a. (λ (h : Covers [] a). absurd (none_covered a h), λ (h : Covers [] a × IsFalse (is_isa_port a)). h.0);
}

-- no address of ranges that rise is behind the last one
up_to : (rs : List Range) (m : ℕ) (z : Range) → IsCanonical rs → m + 1 ≡ length rs → (a : ℕ) → Covers rs a → a ≤ (get_or rs m z).last
up_to rs m z can end a (k, r, within, at, held) =
    let here : Holds (get_or rs k z) a = found_at rs a k r z within at held in
    let last = up_to_the_last rs m k z can end within in
    omega (arith, here, last)

pub kept_of : (rs ports out : List Range) (m : ℕ) (z : Range) → IsCanonical rs → m + 1 ≡ length rs → ArePortsKept (get_or rs m z).last ports → IsCommon rs ports out → AreLeftByIsa rs out
kept_of rs ports out m z can end left is = record {
  canonical = is.canonical;
  exact = λ a. (
    λ (h : Covers out a). (let both = (is.exact a).0 h in (both.0, (left.exact a (up_to rs m z can end a both.0)).0 both.1)),
    λ (h : Covers rs a × IsFalse (is_isa_port a)). (is.exact a).1 (h.0, (left.exact a (up_to rs m z can end a h.0)).1 h.1),
  );
}

-- ---- bridges

pub cut_by : (given : Given) (space : Space) (a : ℕ) (slot : Slot) → is_cut given space a slot ≡ (cuts given space slot && is_isa_port a)
cut_by given Io a slot = refl
cut_by given Memory a slot = refl

pub cut_where : (given : Given) (space : Space) (a : ℕ) (slot : Slot) → cuts given space slot ≡ true → is_cut given space a slot ≡ is_isa_port a
cut_where given space a slot on = cut_by given space a slot ∙ ap (λ b. b && is_isa_port a) on

pub never_cut : (given : Given) (space : Space) (a : ℕ) (slot : Slot) → cuts given space slot ≡ false → is_cut given space a slot ≡ false
never_cut given space a slot off = cut_by given space a slot ∙ ap (λ b. b && is_isa_port a) off

not_true : (b : Bool) → not b ≡ true → b ≡ false
not_true true h = sym h
not_true false h = refl

module _ (given : Given) (kind : WindowKind) (r : Record) (windows : List Range) (canonical : IsCanonical windows)
    (exact : (a : ℕ) → Covers windows a ↔ IsTrue (record_passes kind a (record_value r))) where
  pub windows_cut : (out : List Range) → cuts given (window_space kind) r.slot ≡ true → AreLeftByIsa windows out → ArePassedByWindows given kind r out
  windows_cut out on are = record {
    canonical = are.canonical;
    exact = λ a. (
      λ (h : Covers out a). (let both = (are.exact a).0 h in and_from (record_passes kind a (record_value r)) (not (is_cut given (window_space kind) a r.slot))
          ((exact a).0 both.0) (ap not (cut_where given (window_space kind) a r.slot on ∙ both.1))),
      λ (h : IsTrue (window_passes given kind a r)). (
          let parts = and_parts (record_passes kind a (record_value r)) (not (is_cut given (window_space kind) a r.slot)) h in
          (are.exact a).1 ((exact a).1 parts.0, sym (cut_where given (window_space kind) a r.slot on) ∙ not_true _ parts.1)),
    );
  }

  pub windows_whole : cuts given (window_space kind) r.slot ≡ false → ArePassedByWindows given kind r windows
  windows_whole off = record {
    canonical = canonical;
    exact = λ a. (
      λ (h : Covers windows a). and_from (record_passes kind a (record_value r)) (not (is_cut given (window_space kind) a r.slot)) ((exact a).0 h) (ap not (never_cut given (window_space kind) a r.slot off)),
      λ (h : IsTrue (window_passes given kind a r)). (exact a).1 (and_parts (record_passes kind a (record_value r)) (not (is_cut given (window_space kind) a r.slot)) h).0,
    );
  }

-- ---- regions

three : (x y z : Bool) → (x && (y && z)) ≡ ((x && y) && z)
three true y z = refl
three false y z = refl

-- what is taken from a region, by whether it is cut
pub cut_from_by : (given : Given) (space : Space) (r : Region) (a : ℕ) → is_cut_from given space r a ≡ (is_cut_region given space r && is_isa_port a)
cut_from_by given space r a =
    ap (λ b. is_of_window r.part && b) (cut_by given space a r.slot) ∙ three (is_of_window r.part) (cuts given space r.slot) (is_isa_port a)

pub cut_from_where : (given : Given) (space : Space) (r : Region) (a : ℕ) → is_cut_region given space r ≡ true → is_cut_from given space r a ≡ is_isa_port a
cut_from_where given space r a on = cut_from_by given space r a ∙ ap (λ b. b && is_isa_port a) on

pub never_cut_from : (given : Given) (space : Space) (r : Region) (a : ℕ) → is_cut_region given space r ≡ false → is_cut_from given space r a ≡ false
never_cut_from given space r a off = cut_from_by given space r a ∙ ap (λ b. b && is_isa_port a) off

module _ (given : Given) (space : Space) (r : Region) (whole : List Range) (canonical : IsCanonical whole) (exact : (a : ℕ) → Covers whole a ↔ ((r.first ≤ a) × (a ≤ r.last))) where
  pub region_cut : (out : List Range) → is_cut_region given space r ≡ true → AreLeftByIsa whole out → AreAddressesOf given space r out
  region_cut out on are = record {
    canonical = are.canonical;
    exact = λ a. (
      λ (h : Covers out a). (let both = (are.exact a).0 h in ((exact a).0 both.0, cut_from_where given space r a on ∙ both.1)),
      λ (h : ((r.first ≤ a) × (a ≤ r.last)) × IsFalse (is_cut_from given space r a)). (are.exact a).1 ((exact a).1 h.0, sym (cut_from_where given space r a on) ∙ h.1),
    );
  }

  pub region_whole : is_cut_region given space r ≡ false → AreAddressesOf given space r whole
  region_whole off = record {
    canonical = canonical;
    exact = λ a. (
      λ (h : Covers whole a). ((exact a).0 h, never_cut_from given space r a off),
      λ (h : ((r.first ≤ a) × (a ≤ r.last)) × IsFalse (is_cut_from given space r a)). (exact a).1 h.0,
    );
  }
