-- `coding::lanes::Lanes::put` meets its contract: a number below the part's least one gives nothing, and any other gives one bit or one byte, which is
-- set behind what its lane has: of a bit, the digit made in the byte of its place.
use mathlib.Core.Path.{◌≡◌, refl, ◌∙◌, sym, ap, subst, subst⁻¹}
use mathlib.Core.Bool.{Bool, true, false}
use mathlib.Core.List.{[], ◌∷◌, map}
use Prim.Native.Nat.{ℕ, ◌+◌, ◌*◌, ◌/◌, ◌%◌, ◌≤◌, ◌<◌}
use native.Mathlib.Omega.{arith}
use native.Mathlib.Numerals.{add-one}
use lib.Dec.{leb}
use lib.ListN.{length, set}
use Rattle.coding.specs.Bits.{bit, all_bits}
use Rattle.coding.specs.Lanes.{view_of, element_of, item_of, only, HasRoom, Puts}
use Rattle.coding.specs.declared.lanes.Lanes.{Lanes}
use Rattle.coding.specs.declared.lanes.part.Part.{Part}
use Rattle.coding.proofs.Laws.Items.{item_one, item_none}
use Rattle.coding.proofs.Laws.Lanes.{only_none, puts_none, puts_same, room_same, lane_in, place_in, put_one}
use Rattle.coding.proofs.Laws.Views.{set-bit, map-set, length_bits}
use Rattle.coding.proofs.lanes.Lanes.put.Goals as goal
use Rattle.coding.proofs.lanes.Lanes.put.Goals.{After-place-at, then-part, else-part}

-- one element is put, of the kind that the part's flag says
module _ (p : Part) (v d : ℕ) (h : p.from ≤ v) (b : Bool) (g : p.bits ≡ b) where
  load_is : (e : ℕ) → only d (item_of p v) e ≡ only d (element_of b p.by v ∷ []) e
  load_is e = ap (λ l. only d l e) (item_one p v h ∙ ap (λ x. element_of x p.by v ∷ []) g)

  room_one : (l : Lanes) → HasRoom p.bits l (only d (item_of p v)) → HasRoom b l (only d (element_of b p.by v ∷ []))
  room_one l r = room_same load_is (subst (λ x. HasRoom x l (only d (item_of p v))) g r)

  puts_one : (old new : Lanes) → Puts b old new (only d (element_of b p.by v ∷ [])) → Puts p.bits old new (only d (item_of p v))
  puts_one old new q = subst⁻¹ (λ x. Puts x old new (only d (item_of p v))) g (puts_same (λ e. sym (load_is e)) q)

pub returns-then-v-part : goal.returns-then-v-part
returns-then-v-part c =
    let a = c.args in
    puts_none (λ e. ap (λ l. only a.d l e) (item_none a.part a.v c.if-v-part.true) ∙ only_none a.d e)

pub place-at-requires-clause-in_lane : goal.place-at-requires-clause-in_lane
place-at-requires-clause-in_lane c =
    let a = c.args in
    rw (add-one a.d)
    (lane_in a.part.bits a.self.now a.d _ c.requires.d_in_bounds (room_one a.part a.v a.d c.if-v-part.false a.part.bits refl a.self.now c.requires.room))

-- ---- a bit

bit_in : (c : After-place-at) → c.args.part.bits ≡ true → c.place-at.result / 8 < length c.args.self.now.out.now
bit_in c g =
    let a = c.args in
    let l = a.self.now in
    omega (
      arith,
      place_in true l a.d (bit (leb a.part.by a.v)) c.requires.d_in_bounds (room_one a.part a.v a.d c.if-v-part.false true g l c.requires.room),
      length_bits l.out.now,
    )

pub bounds-self-q : goal.bounds-self-q
bounds-self-q c = bit_in (goal.at.bounds-self-q c).After-place-at c.if-part.true

pub bounds-self-q-then-part : goal.bounds-self-q-then-part
bounds-self-q-then-part c = bit_in (goal.at.bounds-self-q-then-part c).After-place-at c.if-part.true

pub bounds-self-at : goal.bounds-self-at
bounds-self-at c =
    let a = c.args in
    omega (
      arith,
      place_in false a.self.now a.d (a.v / a.part.by % 256) c.requires.d_in_bounds
          (room_one a.part a.v a.d c.if-v-part.false false c.if-part.false a.self.now c.requires.room),
    )

-- ---- the function

pub returns : goal.returns
returns c =
    let a = c.args in
    let l = a.self.now in
    let out = l.out.now in
    let p = c.place-at.result in
    let h = c.if-v-part.false in
    elim c.if-part.branch [
      | then-part w ↦
          let v = leb a.part.by a.v in
          let r = room_one a.part a.v a.d h true w.if-part.true l c.requires.room in
          let e : 8 * (p / 8) + p % 8 ≡ p = omega arith in
          let g : view_of true (set out (p / 8) w.mend.result) ≡ set (view_of true out) p (bit v) =
          ap (map bit) (set-bit out (p / 8) (p % 8) w.mend.result v (bit_in (goal.at.returns c).After-place-at w.if-part.true) (omega arith) w.mend.ensures)
          ∙ ap (λ n. map bit (set (all_bits out) n v)) e
          ∙ map-set bit (all_bits out) p v in
          rw w.self-is
          (puts_one a.part a.v a.d h true w.if-part.true l _
          (record { starts = refl; cur = refl; out = refl; load = rw (g, c.place-at.ensures.0) (put_one l.starts.now l.cur.now (view_of true out) a.d (bit v) c.requires.d_in_bounds r) }))
      | else-part w ↦
          let r = room_one a.part a.v a.d h false w.if-part.false l c.requires.room in
          rw w.self-is
          (puts_one a.part a.v a.d h false w.if-part.false l _
          (record { starts = refl; cur = refl; out = refl; load = rw c.place-at.ensures.0 (put_one l.starts.now l.cur.now out a.d (a.v / a.part.by % 256) c.requires.d_in_bounds r) }))
    ]
