-- `coding::write::Share::fill` meets its contract. The numbers fill a single lane. The loop's invariant: what the numbers so far have is put, and there is room for the rest.
use mathlib.Core.Path.{◌≡◌, refl, sym, ◌∙◌, ap}
use mathlib.Core.List.{List, [], ◌∷◌, ◌++◌}
use Prim.Native.Nat.{ℕ, zero, suc, ◌+◌, ◌<◌, ◌≤◌}
use native.Mathlib.Omega.{arith}
use lib.ListN.{length, take, drop, get_or}
use lib.Seq.{take_all}
use Rattle.std.proofs.Common.{rules}
use Rattle.coding.specs.Lanes.{view_of, item_of, items_of, only, then, total, Room, Started}
use Rattle.coding.specs.declared.lanes.part.Part.{Part}
use Rattle.coding.proofs.Laws.Items.{items_turn, items_more}
use Rattle.coding.proofs.Laws.Lanes.{only-append, only_none, puts_none, puts_same, puts_then, room_same, room_left, lanes_right, put_same, Fresh, room_start, full}
use Rattle.coding.proofs.write.Share.fill.Invariants.{load}
use Rattle.coding.proofs.write.Share.fill.Goals as goal

-- a lane from 0 to n, with nothing put yet
started : (n : ℕ) → Started (n ∷ []) (0 ∷ n ∷ [])
started n = record { count = refl; sums = at }
  where
    at : (e : ℕ) → e ≤ 1 → get_or (0 ∷ n ∷ []) e 0 ≡ total (n ∷ []) e
    at zero h = refl
    at (suc zero) h = omega arith
    at (suc (suc e)) h = absurd (omega arith)

fresh : Fresh (0 ∷ [])
fresh zero h = refl
fresh (suc e) h = absurd (omega arith)

-- is as long as what is to be put
sized : (p : Part) (l : List ℕ) (n : ℕ) → n ≡ length (items_of p l) → (e : ℕ) → e < 1 → get_or (n ∷ []) e 0 ≡ length (load p l e)
sized p l n g zero h = g
sized p l n g (suc e) h = absurd (omega arith)

-- and has room for it
begins : (p : Part) (l out : List ℕ) (n : ℕ) → n ≡ length (items_of p l) → n ≤ length out → Room (0 ∷ n ∷ []) (0 ∷ []) out (load p l)
begins p l out n g h = room_start (load p l) (n ∷ []) (sized p l n g) (0 ∷ n ∷ []) (0 ∷ []) out (started n) refl fresh (omega arith)

-- the next number's item, before the rest and behind what is put
module _ (p : Part) (l : List ℕ) (k : ℕ) (h : k < length l) where
  turn : (e : ℕ) → load p (drop k l) e ≡ then (only 0 (item_of p (get_or l k 0))) (load p (drop (k + 1) l)) e
  turn e =
      ap (λ m. only 0 m e) (items_turn l k p h) ∙ only-append 0 (item_of p (get_or l k 0)) (items_of p (drop (k + 1) l)) e

  more : (e : ℕ) → then (load p (take k l)) (only 0 (item_of p (get_or l k 0))) e ≡ load p (take (k + 1) l) e
  more e =
      sym (only-append 0 (items_of p (take k l)) (item_of p (get_or l k 0)) e) ∙ ap (λ m. only 0 m e) (sym (items_more p l k h))

none : (p : Part) (e : ℕ) → load p [] e ≡ []
unfolding items_of
none p e = only_none 0 e

pub loop-v-init : goal.loop-v-init
loop-v-init c =
    let s = c.args.self.now in
    record {
      done = puts_none (none s.part);
      room = begins s.part s.numbers.now (view_of s.part.bits c.args.out.now) s.count s.counted c.requires;
    }

pub put-requires-clause-room : goal.put-requires-clause-room
put-requires-clause-room c =
    let s = c.args.self.now in
    let l = s.numbers.now in
    let k = c.loop-v.v-index in
    room_left (only 0 (item_of s.part (get_or l k 0))) (load s.part (drop (k + 1) l))
    (room_same (turn s.part l k (omega arith)) c.loop-v.invariant.room)

pub loop-v-preserved : goal.loop-v-preserved
loop-v-preserved c =
    let s = c.args.self.now in
    let l = s.numbers.now in
    let k = c.loop-v.v-index in
    let i = c.loop-v.invariant in
    let h : k < length l = omega arith in
    record {
      done = puts_same (more s.part l k h) (puts_then i.done c.put.ensures);
      room =
          lanes_right (only 0 (item_of s.part (get_or l k 0))) (load s.part (drop (k + 1) l)) (room_same (turn s.part l k h) i.room)
          c.put.ensures;
    }

-- the lane is full once all is put
pub returns : goal.returns
returns c =
    let s = c.args.self.now in
    let p = s.part in
    let l = s.numbers.now in
    let i = c.loop-v.invariant.done in
    let e : take c.loop-v.v-index l ≡ l = take_all c.loop-v.v-index l (omega arith) in
    let q = put_same (λ k. ap (λ m. load p m k) e) i.load in
    let v = view_of p.bits c.args.out.now in
    let w : view_of p.bits c.loop-v.lanes.out.now ≡ items_of p l ++ drop s.count v =
    full (load p l) (s.count ∷ []) (sized p l s.count s.counted) (0 ∷ s.count ∷ []) (0 ∷ []) v (started s.count) refl fresh _ _ q
    ∙ ap (λ m. items_of p l ++ drop m v) (sym s.counted) in
    search rules
