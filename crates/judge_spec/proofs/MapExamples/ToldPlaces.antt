-- Told ranges that are out of place, that keep addresses from being free, and that belong under a window.
use Rattle.std.proofs.Common.{◌≡◌, ℕ, zero, suc, [], ◌∷◌, false, refl, arith, lit<, lit≤, subst, ap, sym, ◌∙◌, inl, inr, None, Some}
use Rattle.std.specs.Prelude.{IsTrue}
use Rattle.std.specs.List.{slice_get}
use Rattle.std.proofs.lemmas.Bool.{both_ways}
use Rattle.pci_spec.specs.Window.{WindowKind, IoWindow, MemoryWindow, PrefetchWindow}
use Rattle.pci_spec.specs.System.{Function, Memory, Window}
use Rattle.pci_spec.specs.Why.{Region}
use Rattle.pci_spec.specs.Fault.{named_region}
use Rattle.pci_spec.proofs.Members.{in_nil, in_cons_cases}
use Rattle.pci_spec.proofs.Examples.Samples.{slot, device, bridge, host}
use Rattle.judge_spec.specs.Given.{Given, nothing_given}
use Rattle.judge_spec.specs.Told.{ToldRange, Mark, Command, Always, Held}
use Rattle.judge_spec.specs.ToldClaims.{Told, is_range_on, is_marked_held}
use Rattle.judge_spec.proofs.Examples.ToldClaims.{told_ranges, told_memory}
use Rattle.judge_spec.specs.Lines.{IsOutOfPlace, IsFreeOn, BelongsUnder, is_first_window}
use Rattle.judge_spec.proofs.MapExamples.Places.{memory_to}
use Rattle.judge_spec.proofs.MapExamples.Samples.{region}
use Rattle.judge_spec.proofs.MapExamples.ToldTexts.{of_line}

abbrev marked : Mark → ToldRange
marked mark = told_memory (slot 0 2 0) 0xe0001000 0xe0001fff mark

abbrev told : Mark → Told
told mark = told_ranges (marked mark ∷ [])

the_range : (mark : Mark) (index : ℕ) (r : ToldRange) → slice_get (told mark).ranges index ≡ Some r → marked mark ≡ r
the_range mark zero r at = let e : Some (marked mark) ≡ Some r = at in cc
the_range mark (suc index) r at = let e : None ≡ Some r = at in absurd cc

-- ---- out of place

-- its last address alone isn't sent
last_address : IsOutOfPlace (told Always) (memory_to None 0xe0000000 0xe0001ffe) host [] (of_line 1 (marked Always))
last_address = record {
  address = 0xe0001fff;
  outside = inr record {
    r = marked Always;
    needs = record { named = record { index = 0; at = refl; slot = refl; register = refl }; not_held = refl; claims = record { on = refl; holds = (refl, lit≤ tt, lit≤ tt) } };
    bridges = [];
    root = 0;
    is_root = (0, lit< tt, refl);
    leads = refl;
    none = refl;
  };
}

held_stays : IsOutOfPlace (told Held) (memory_to None 0xe0000000 0xe0001ffe) host [] (of_line 1 (marked Held)) → ⊥
held_stays out = elim out.outside [
  | inl o ↦ in_nil o.f o.listed
  | inr o ↦ both_ways (is_marked_held o.r.mark) o.needs.not_held (ap (λ (r : ToldRange). is_marked_held r.mark) (sym (the_range Held o.needs.named.index o.r o.needs.named.at)))
]

-- ---- free on a root bus

abbrev sent : Given
sent = memory_to None 0xe0000000 0xe00fffff

not_where_it_claims : IsFreeOn (told Held) sent [] 0 Memory 0xe0001fff → ⊥
not_where_it_claims free = free.unclaimed (inr (
  named_region (slot 0 2 0) 256,
  record {
    r = marked Held;
    named = record { index = 0; at = refl; slot = refl; register = refl };
    on_the_bus = refl;
    claims = record { on = refl; holds = (refl, lit≤ tt, lit≤ tt) };
  },
))

-- behind its last address
behind_it : IsFreeOn (told Held) sent [] 0 Memory 0xe0002000
behind_it = record {
  said = refl;
  address = lit< tt;
  sent = refl;
  unclaimed = λ claimed. elim claimed [
    | inl part ↦ in_nil part.f part.listed
    | inr range ↦ (let high = range.1.claims.holds.2 in
        let last : 0xe0001fff ≡ range.1.r.last = ap (λ (r : ToldRange). r.last) (the_range Held range.1.named.index range.1.r range.1.named.at) in omega (arith, high, last))
  ];
}

-- a range that isn't on keeps nothing
while_disabled : IsFreeOn (told Command) sent (device (slot 1 2 0) 2 [] [] ∷ []) 0 Memory 0xe0001fff
while_disabled = record {
  said = refl;
  address = lit< tt;
  sent = refl;
  unclaimed = λ claimed. elim claimed [
    | inl part ↦ elim (in_cons_cases (device (slot 1 2 0) 2 [] []) [] part.f part.listed) [
      | inl one ↦ (let e : 1 ≡ 0 = ap (λ (f : Function). f.slot.bus) one ∙ part.on_bus in omega (arith, e))
      | inr none ↦ in_nil part.f none
    ]
    | inr range ↦
        both_ways (is_range_on (told Command) (device (slot 1 2 0) 2 [] [] ∷ []) range.1.r)
        (ap (λ (r : ToldRange). is_range_on (told Command) (device (slot 1 2 0) 2 [] [] ∷ []) r) (sym (the_range Command range.1.named.index range.1.r range.1.named.at))) range.1.claims.on
  ];
}

-- ---- under which window: by its first address

abbrev above : Function
above = bridge (slot 0 1 0) 2 0x010100 ((0x20, 0xe000e000) ∷ []) []

abbrev window : Region
window = region (slot 0 1 0) 0x20 (Window MemoryWindow) Memory false 0xe0000000 0xe00fffff

past_its_end : BelongsUnder nothing_given (above ∷ []) window (of_line 2 (told_memory (slot 1 0x1f 0) 0xe00ff000 0xe0100fff Held))
past_its_end = record { b = above; listed = (0, lit< tt, refl); bridge = refl; slot = refl; leads = refl; kind = MemoryWindow; window = refl; first = refl }

none_holds : (kind : WindowKind) → IsTrue (is_first_window nothing_given Memory kind 0xdffff000 above) → ⊥
none_holds IoWindow is = both_ways false refl is
none_holds MemoryWindow is = both_ways false refl is
none_holds PrefetchWindow is = both_ways false refl is

before_its_first : BelongsUnder nothing_given (above ∷ []) window (of_line 2 (told_memory (slot 1 0x1f 0) 0xdffff000 0xe0000fff Held)) → ⊥
before_its_first under = elim (in_cons_cases above [] under.b under.listed) [
  | inl one ↦ none_holds under.kind (subst (λ (b : Function). IsTrue (is_first_window nothing_given Memory under.kind 0xdffff000 b)) (sym one) under.first)
  | inr none ↦ in_nil under.b none
]
