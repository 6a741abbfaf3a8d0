-- The first window of a bridge that claims an address.
use Rattle.std.proofs.Common.{◌≡◌, ℕ, List, refl, sym, ap, ◌∙◌, subst, inl, inr, not, true, false, Option, None, Some}
use Rattle.std.specs.Option.{is_some}
use Rattle.std.specs.Prelude.{IsTrue, nat_le}
use Rattle.std.specs.List.{Contains}
use Rattle.std.proofs.lemmas.Bool.{cases_Bool, and_parts, and_from, false≢true, leb-true}
use Rattle.pci_spec.specs.Slot.{Slot}
use Rattle.pci_spec.specs.Registers.{IO_BASE, MEMORY_BASE, PREFETCHABLE_BASE}
use Rattle.pci_spec.specs.Window.{WindowKind, IoWindow, MemoryWindow, PrefetchWindow, window_register}
use Rattle.pci_spec.specs.System.{System, Function, Space, Io, Memory, Claims, IsAddress, window_claims, window_space, is_bridge, register_of}
use Rattle.pci_spec.specs.System as system
use Rattle.pci_spec.specs.Why.{IsRegionIn}
use Rattle.pci_spec.proofs.Regions.{part_same}
use Rattle.judge_spec.specs.Given.{Given, is_cut}
use Rattle.judge_spec.specs.Claims.{is_cut_of}
use Rattle.judge_spec.specs.Lines.{is_first_window}
use Rattle.judge_spec.proofs.Having.{first_claims}
use Rattle.pci_tree.specs.declared.region.Region.{Region}
use Rattle.pci_claims.specs.Claim.{is_cut_from}
use Rattle.pci_claims.specs.Found.{region_of_found, IsFoundIn}
use Rattle.pci_claims.proofs.Cutting.{cut_from_by}
use Rattle.pci_claims.proofs.Founds.{region_in}
use Rattle.pci_map.specs.Values.{value_of}
use Rattle.pci_map.specs.Inside.{region_has, is_cut_by_isa}
use Rattle.pci_map.specs.Left.{NoneHas, IsFirstHoldingWindow}
use Rattle.pci_map.specs.Ways.{Spot, io_spot, memory_spot, prefetchable_spot, IsJudged, IsHoldingWindow, IsHoldingAt, IsFirstJudged, IsFirstAt}
use Rattle.pci_map.specs.declared.left.Judged.{Judged}
use Rattle.pci_map.proofs.Values.{part_is}
use Rattle.pci_map.proofs.Cuts.{cut_at}
use Rattle.pci_map.proofs.Insides.{window_claims_of, claims_of, kept_first}

-- what is found at a slot and a register is a region
pub found_region : (s : System) (slot : Slot) (reg : ℕ) (space : Space) (q : Region) → IsFoundIn s slot reg space q → IsRegionIn s (value_of space q)
found_region s slot reg space q found =
    subst (λ p. IsRegionIn s (region_of_found q p space)) (sym (part_is found.f found.part space q found.is)) (region_in s found.f found.part space q found.listed found.is)

module _ (given : Given) (s : System) (unique : (f g : Function) → Contains s f → Contains s g → f.slot ≡ g.slot → f ≡ g)
    (b : Function) (listed : Contains s b) (bridge : IsTrue (is_bridge b)) (slot : Slot) (named : b.slot ≡ slot) (a : ℕ) where
  module _ (k : WindowKind) (space : Space) (w : Region) (found : IsFoundIn s slot (window_register k) space w) where
    same : found.f ≡ b
    same = unique found.f b found.listed listed (sym found.is.slot ∙ found.slot_is ∙ sym named)

    register : register_of b found.part ≡ window_register k
    register = ap (λ f. register_of f found.part) (sym same) ∙ sym found.is.register ∙ found.register

    claims_at : (x : ℕ) → IsTrue (region_has w x) → Claims b found.part space x
    claims_at x has =
        let parts = and_parts (nat_le w.first x) (nat_le x w.last) has in
        subst (λ f. Claims f found.part space x) same ((found.is.claims x).0 (leb-true w.first x parts.0, leb-true x w.last parts.1))

    part_found : IsTrue (region_has w a) → found.part ≡ system.Window k
    part_found has = part_same b found.part (system.Window k) (claims_at a has).there bridge register

    claims_it : IsTrue (region_has w a) → IsTrue (window_claims b k a)
    claims_it has = window_claims_of b k space a (subst (λ p. Claims b p space a) (part_found has) (claims_at a has))

    first_is : IsTrue (region_has w a) → IsTrue (is_first_window given space k a b) → IsFirstHoldingWindow given s space b a w
    first_is has first = record {
      is = found_region s slot (window_register k) space w found;
      slot = named ∙ sym found.slot_is;
      kind = k;
      window = part_is found.f found.part space w found.is ∙ part_found has;
      first = first;
    }

  not_it : (k : WindowKind) (space : Space) → NoneHas given s slot (window_register k) space a → window_space k ≡ space → IsAddress space a → IsTrue (window_claims b k a) → is_cut given space a b.slot ≡ false → ⊥
  not_it k space none maps address claims kept = none b (system.Window k) listed named refl record { claims = claims_of b k space a bridge maps address claims; kept = kept }

  io_none : NoneHas given s slot IO_BASE Io a → IsAddress Io a → (kind : WindowKind) → IsTrue (is_first_window given Io kind a b) → ⊥
  io_none none address IoWindow first = not_it IoWindow Io none refl address (first_claims given Io IoWindow a b first) (kept_first given Io IoWindow a b first)
  io_none none address MemoryWindow first = false≢true first
  io_none none address PrefetchWindow first = false≢true first

  memory_none : NoneHas given s slot MEMORY_BASE Memory a → NoneHas given s slot PREFETCHABLE_BASE Memory a → IsAddress Memory a → (kind : WindowKind) → IsTrue (is_first_window given Memory kind a b) → ⊥
  memory_none none other address IoWindow first = false≢true first
  memory_none none other address MemoryWindow first = not_it MemoryWindow Memory none refl address first refl
  memory_none none other address PrefetchWindow first =
      not_it PrefetchWindow Memory other refl address (and_parts (window_claims b PrefetchWindow a) (not (window_claims b MemoryWindow a)) first).0 refl

  module _ (roots : List ℕ) where
    first_of : (k : WindowKind) (space : Space) (w : Judged) (h : IsHoldingWindow given roots s record { slot = slot; register = window_register k; space = space } a w) → IsTrue (is_first_window given space k a b) → IsFirstJudged given roots s space b a w
    first_of k space w h first = record { first = first_is k space w.window h.is.found h.has first; judged = h.is.judged }

    claims_of_held : (k : WindowKind) (space : Space) (w : Judged) → IsHoldingWindow given roots s record { slot = slot; register = window_register k; space = space } a w → IsTrue (window_claims b k a)
    claims_of_held k space w h = claims_it k space w.window h.is.found h.has

    -- ISA Enable doesn't take the address from a window that is held to claim it
    held_kept : (k : WindowKind) (space : Space) (w : Judged) → IsHoldingWindow given roots s record { slot = slot; register = window_register k; space = space } a w → is_cut given space a b.slot ≡ false
    held_kept k space w h =
        let found = h.is.found in
        let part = part_found k space w.window found h.has in
        let claims = subst (λ p. Claims b p space a) part (claims_at k space w.window found a h.has) in
        sym (cut_at given s unique slot (window_register k) space w.window found b (system.Window k) a listed named refl claims)
        ∙ cut_from_by given space w.window a ∙ ap (λ c. is_cut_by_isa c a) (sym h.is.cut) ∙ h.kept

    io_first : (o : Option Judged) → IsAddress Io a → IsHoldingAt given roots s (io_spot slot) a o → IsFirstAt given roots s Io b a o
    io_first None address none = io_none none address
    io_first (Some w) address h =
        first_of IoWindow Io w h (and_from (window_claims b IoWindow a) (not (is_cut given Io a b.slot)) (claims_of_held IoWindow Io w h) (ap not (held_kept IoWindow Io w h)))

    memory_first : (o : Option Judged) → is_some o ≡ true → IsHoldingAt given roots s (memory_spot slot) a o → IsFirstAt given roots s Memory b a o
    memory_first None some h = absurd (false≢true some)
    memory_first (Some w) some h = first_of MemoryWindow Memory w h (claims_of_held MemoryWindow Memory w h)

    none_held : (o : Option Judged) → is_some o ≡ false → IsHoldingAt given roots s (memory_spot slot) a o → NoneHas given s slot MEMORY_BASE Memory a
    none_held None none h = h
    none_held (Some w) none h = absurd (false≢true (sym none))

    prefetch_first : (o : Option Judged) → IsAddress Memory a → NoneHas given s slot MEMORY_BASE Memory a → IsHoldingAt given roots s (prefetchable_spot slot) a o → IsFirstAt given roots s Memory b a o
    prefetch_first None address none other = memory_none none other address
    prefetch_first (Some w) address none h =
        first_of PrefetchWindow Memory w h (and_from (window_claims b PrefetchWindow a) (not (window_claims b MemoryWindow a)) (claims_of_held PrefetchWindow Memory w h)
        (elim (cases_Bool (window_claims b MemoryWindow a)) [
          | inl memory ↦ absurd (not_it MemoryWindow Memory none refl address memory refl)
          | inr isnt ↦ ap not isnt
        ]))

    -- of a space that is told in other words
    pub io_any : (space : Space) (o : Option Judged) → space ≡ Io → IsAddress space a → IsHoldingAt given roots s (io_spot slot) a o → IsFirstAt given roots s space b a o
    io_any space o is address h = subst (λ sp. IsFirstAt given roots s sp b a o) (sym is) (io_first o (subst (λ sp. IsAddress sp a) is address) h)

    pub memory_any : (space : Space) (o : Option Judged) → space ≡ Memory → is_some o ≡ true → IsHoldingAt given roots s (memory_spot slot) a o → IsFirstAt given roots s space b a o
    memory_any space o is some h = subst (λ sp. IsFirstAt given roots s sp b a o) (sym is) (memory_first o some h)

    pub prefetch_any : (space : Space) (m o : Option Judged) → space ≡ Memory → is_some m ≡ false → IsAddress space a → IsHoldingAt given roots s (memory_spot slot) a m
        → IsHoldingAt given roots s (prefetchable_spot slot) a o → IsFirstAt given roots s space b a o
    prefetch_any space m o is none address memory h =
        subst (λ sp. IsFirstAt given roots s sp b a o) (sym is) (prefetch_first o (subst (λ sp. IsAddress sp a) is address) (none_held m none memory) h)

-- what ISA Enable takes no part at the register claims
pub none_taken : (given : Given) (s : System) → ((f g : Function) → Contains s f → Contains s g → f.slot ≡ g.slot → f ≡ g) → (roots : List ℕ) (spot : Spot) (a : ℕ) (w : Judged) → IsJudged given roots s spot w
    → is_cut_by_isa w.cut a ≡ true → NoneHas given s spot.slot spot.register spot.space a
none_taken given s unique roots spot a w is taken f part listed at named own =
    let from : is_cut_from given spot.space w.window a ≡ true = cut_from_by given spot.space w.window a ∙ ap (λ c. is_cut_by_isa c a) (sym is.cut) ∙ taken in
    let of : is_cut_from given spot.space w.window a ≡ is_cut_of given part spot.space a f.slot = cut_at given s unique spot.slot spot.register spot.space w.window is.found f part a listed at named own.claims in
    false≢true (sym own.kept ∙ sym of ∙ from)
