-- The lists of writes, a block at a time.
use Rattle.std.proofs.Common.{◌≡◌, ℕ, zero, suc, ◌+◌, ◌<◌, List, [], ◌∷◌, ◌++◌, Bool, true, false, cond, refl, arith, ◌∙◌, ap, map, length, get_or, take, drop, subst}
use Rattle.std.specs.Bool.{◌==◌, if◌then◌else◌}
use Rattle.std.specs.List.{Contains, flat_map, list_all}
use Rattle.std.proofs.lemmas.List.{append-nil, get_or-map, length-map, take_more}
use Rattle.std.proofs.lemmas.Grind.{flat_map-append}
use Rattle.std.proofs.Math.Seq.{drop-cons}
use Rattle.pci_spec.specs.Header.{command, address_registers, registers_by}
use Rattle.pci_spec.specs.Text.{Block}
use Rattle.pci_spec.specs.Machine.{Write, without_low}
use Rattle.plan_spec.specs.Planning.PlanWrites.{Change, closing_of, closing_writes, register_writes, opening_writes, plan_writes, registers_of, opening_of}
use Rattle.pci_spec.specs.System.{system_of}
use Rattle.plan_spec.specs.PlanPromise.{changes_between}
use Rattle.plan_spec.proofs.Planning.Behind.{all_gives}
use Rattle.pci_spec.specs.Port.{is_access}
use Rattle.pci_image.specs.declared.register.Register.{Register}
use Rattle.pci_plan.specs.Writes.{is_image_on, block_change, block_changes}

abbrev pub closing_write : Block → Write
closing_write b = record { slot = b.slot; offset = 0x04; width = 2; value = without_low 4 (command b.image) }

pub closing_on : (b : Block) → is_image_on b.image ≡ true → closing_of (block_change b b) ≡ closing_write b ∷ []
closing_on b on = ap (λ t. cond t (closing_write b ∷ []) []) on

pub closing_off : (b : Block) → is_image_on b.image ≡ false → closing_of (block_change b b) ≡ []
closing_off b off = ap (λ t. cond t (closing_write b ∷ []) []) off

-- closing from the end: one block more
pub closing_more : (blocks : List Block) (k : ℕ) (d : Block) → k < length blocks
    → closing_writes (block_changes (drop k blocks) (drop k blocks))
    ≡ closing_writes (block_changes (drop (suc k) blocks) (drop (suc k) blocks)) ++ closing_of (block_change (get_or blocks k d) (get_or blocks k d))
closing_more blocks k d less = ap (λ bs. closing_writes (block_changes bs bs)) (drop-cons blocks k d less)

-- ---- registers

abbrev pub pair_of : Register → ℕ × ℕ
pair_of r = (r.offset, r.width)

access_by : (bridge : Bool) → list_all (λ q. is_access q.0 q.1) (registers_by bridge) ≡ true
access_by true = refl
access_by false = refl

-- the registers of a header, by its layout and by whether it is a bridge's
pub by_bridge : (bridge : Bool) → address_registers (if bridge then 1 else 0) ≡ registers_by bridge
by_bridge true = refl
by_bridge false = refl

-- each is a lawful access
pub register_access : (items : List Register) (k : ℕ) → map pair_of items ≡ address_registers k → (i : ℕ) (d : Register) → i < length items
    → is_access (get_or items i d).offset (get_or items i d).width ≡ true
register_access items k table i d within =
    let long : i < length (map pair_of items) = (let l = length-map items pair_of in omega (arith, l, within)) in
    let at : get_or (map pair_of items) i (pair_of (get_or items i d)) ≡ pair_of (get_or items i d) = get_or-map pair_of items i d (pair_of (get_or items i d)) within in
    all_gives (λ q. is_access q.0 q.1) (registers_by (k == 1)) (pair_of (get_or items i d)) (access_by (k == 1))
    (subst (λ xs. Contains xs (pair_of (get_or items i d))) table (i, long, at))

-- ---- blocks side by side

pub length_changes : (olds news : List Block) → length news ≡ length olds → length (block_changes olds news) ≡ length olds
length_changes [] news same = refl
length_changes (o ∷ olds) [] same = absurd (let impossible : ⊥ = omega (arith, same) in impossible)
length_changes (o ∷ olds) (n ∷ news) same = ap suc (length_changes olds news (omega (arith, same)))

pub change_at : (olds news : List Block) → length news ≡ length olds → (k : ℕ) (d e : Block) (c : Change) → k < length olds → get_or (block_changes olds news) k c ≡ block_change (get_or olds k d) (get_or news k e)
change_at [] news same k d e c less = absurd (let impossible : ⊥ = omega (arith, less) in impossible)
change_at (o ∷ olds) [] same k d e c less = absurd (let impossible : ⊥ = omega (arith, same) in impossible)
change_at (o ∷ olds) (n ∷ news) same zero d e c less = refl
change_at (o ∷ olds) (n ∷ news) same (suc k) d e c less = change_at olds news (omega (arith, same)) k d e c (omega (arith, less))

-- one block more
pub changes_more : (olds news : List Block) → length news ≡ length olds → (k : ℕ) (d e : Block) → k < length olds
    → take (k + 1) (block_changes olds news) ≡ take k (block_changes olds news) ++ block_change (get_or olds k d) (get_or news k e) ∷ []
changes_more olds news same k d e less =
    let c = block_change d e in
    let l = length_changes olds news same in
    take_more (block_changes olds news) k c (omega (arith, l, less)) ∙ ap (λ x. take k (block_changes olds news) ++ x ∷ []) (change_at olds news same k d e c less)

pub flat_map_more : {X : Type 0} (f : X → List Write) (cs : List X) (c : X) → flat_map f (cs ++ c ∷ []) ≡ flat_map f cs ++ f c
flat_map_more f cs c = flat_map-append f cs (c ∷ []) ∙ ap (λ ws. flat_map f cs ++ ws) (append-nil (f c))

-- the closing writes hang on what is there alone
pub closing_same : (olds news : List Block) → length news ≡ length olds → closing_writes (block_changes olds olds) ≡ closing_writes (block_changes olds news)
closing_same [] news same = refl
closing_same (o ∷ olds) [] same = absurd (let impossible : ⊥ = omega (arith, same) in impossible)
closing_same (o ∷ olds) (n ∷ news) same = ap (λ ws. ws ++ closing_of (block_change o o)) (closing_same olds news (omega (arith, same)))

-- ---- of the systems that the blocks make with a probe

closing_by_blocks : (olds news probe : List Block) → length news ≡ length olds → length probe ≡ length olds
    → closing_writes (block_changes olds news) ≡ closing_writes (changes_between (system_of olds probe) (system_of news probe))
closing_by_blocks [] news probe n p = refl
closing_by_blocks (o ∷ olds) [] probe n p = absurd (let impossible : ⊥ = omega (arith, n) in impossible)
closing_by_blocks (o ∷ olds) (w ∷ news) [] n p = absurd (let impossible : ⊥ = omega (arith, p) in impossible)
closing_by_blocks (o ∷ olds) (w ∷ news) (q ∷ probe) n p = ap (λ ws. ws ++ closing_of (block_change o w)) (closing_by_blocks olds news probe (omega (arith, n)) (omega (arith, p)))

registers_by_blocks : (olds news probe : List Block) → length news ≡ length olds → length probe ≡ length olds
    → register_writes (block_changes olds news) ≡ register_writes (changes_between (system_of olds probe) (system_of news probe))
registers_by_blocks [] news probe n p = refl
registers_by_blocks (o ∷ olds) [] probe n p = absurd (let impossible : ⊥ = omega (arith, n) in impossible)
registers_by_blocks (o ∷ olds) (w ∷ news) [] n p = absurd (let impossible : ⊥ = omega (arith, p) in impossible)
registers_by_blocks (o ∷ olds) (w ∷ news) (q ∷ probe) n p = ap (λ ws. registers_of (block_change o w) ++ ws) (registers_by_blocks olds news probe (omega (arith, n)) (omega (arith, p)))

opening_by_blocks : (olds news probe : List Block) → length news ≡ length olds → length probe ≡ length olds
    → opening_writes (block_changes olds news) ≡ opening_writes (changes_between (system_of olds probe) (system_of news probe))
opening_by_blocks [] news probe n p = refl
opening_by_blocks (o ∷ olds) [] probe n p = absurd (let impossible : ⊥ = omega (arith, n) in impossible)
opening_by_blocks (o ∷ olds) (w ∷ news) [] n p = absurd (let impossible : ⊥ = omega (arith, p) in impossible)
opening_by_blocks (o ∷ olds) (w ∷ news) (q ∷ probe) n p = ap (λ ws. opening_of (block_change o w) ++ ws) (opening_by_blocks olds news probe (omega (arith, n)) (omega (arith, p)))

pub writes_by_blocks : (olds news probe : List Block) → length news ≡ length olds → length probe ≡ length olds
    → plan_writes (block_changes olds news) ≡ plan_writes (changes_between (system_of olds probe) (system_of news probe))
writes_by_blocks olds news probe n p =
    ap (λ ws. ws ++ (register_writes (block_changes olds news) ++ opening_writes (block_changes olds news))) (closing_by_blocks olds news probe n p)
    ∙ ap (λ ws. closing_writes (changes_between (system_of olds probe) (system_of news probe)) ++ (ws ++ opening_writes (block_changes olds news))) (registers_by_blocks olds news probe n p)
    ∙ ap (λ ws. closing_writes (changes_between (system_of olds probe) (system_of news probe)) ++ (register_writes (changes_between (system_of olds probe) (system_of news probe)) ++ ws)) (opening_by_blocks olds news probe n p)
