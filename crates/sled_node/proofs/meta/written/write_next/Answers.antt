use Rattle.std.proofs.Common.{◌≡◌, ◌≤◌, ◌+◌, ◌++◌, ℕ, List, length, take, drop, sym, ap, ◌∙◌, arith}
use Rattle.std.proofs.lemmas.List.{length-append, length-take, take_at, take-append-drop, take-append-le}
use Rattle.sled_node.specs.Payloads.Roots.{written_root}
use Rattle.sled_node.proofs.Payloads.Sizes.{pair_size}
use Rattle.sled_node.proofs.meta.written.write_next.Goals as goal

-- what is written behind the first bytes
behind : (before after front : List ℕ) (start end : ℕ) (now : List ℕ) → start ≤ length before → take start before ≡ front → end ≡ start + length now → after ≡ (take start before ++ now) ++ drop (start + length now) before
    → take end after ≡ front ++ now
behind before after front start end now within same goes wrote =
    let long : length (take start before ++ now) ≡ end = omega (arith, goes, within, length-append (take start before) now, length-take start before) in
    ap (take end) wrote ∙ take_at (take start before ++ now) (drop (start + length now) before) end long ∙ ap (λ bytes. bytes ++ now) same

-- there is room
pub write_root-requires : goal.write_root-requires
write_root-requires c =
    let room = c.in_ok-make_room.ensures.room in
    let ok = c.make_room.new.bytes.ok in
    let same = ap length c.deref_mut.ensures.value in
    omega (arith, room, ok, same, pair_size c.args.name.now c.args.root)

-- the first bytes stay where more room is made
first : (old bytes : List ℕ) (start : ℕ) → start ≤ length old → take (length old) bytes ≡ old → take start bytes ≡ take start old
first old bytes start within same =
    ap (take start) (sym (take-append-drop (length old) bytes) ∙ ap (λ front. front ++ drop (length old) bytes) same) ∙ take-append-le start old (drop (length old) bytes) within

pub returns : goal.returns
returns c =
    let old = c.args.bytes.now.items in
    let lent = c.deref_mut.result.now in
    let out = c.write_root.new.out in
    let W = written_root (c.args.name.now, c.args.root) in
    let room = c.in_ok-make_room.ensures.room in
    let front = c.in_ok-make_room.ensures.front in
    let size = c.write_root.ensures.size in
    let wrote = c.write_root.ensures.bytes in
    let value = c.deref_mut.ensures.value in
    let is_old = c.args.bytes.now.ok in
    let ok = c.make_room.new.bytes.ok in
    let same = ap length value in
    let start = c.requires in
    let within : c.args.start ≤ length old = omega (arith, start, is_old) in
    let long = c.write_root.auto.out in
    record {
      written =
          ap (take c.write_root.result) (take_at out (drop (length out) c.make_room.new.bytes.items) c.make_room.new.bytes.len (omega (arith, long, same, ok)))
          ∙ behind lent out (take c.args.start old) c.args.start c.write_root.result W (omega (arith, within, room, ok, same)) (ap (take c.args.start) value ∙ first old c.make_room.new.bytes.items c.args.start within front) size wrote;
      within = omega (arith, size, room, pair_size c.args.name.now c.args.root);
    }
