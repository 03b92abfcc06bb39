-- What the cells of one owner hold.
use Rattle.std.specs.Prelude.{List, map}
use Rattle.concurrent_queue.specs.Contents.{Contents, BlockCells}
use Rattle.concurrent_queue.specs.declared.pool.PlainBlock.{PlainBlock}
use Rattle.concurrent_queue.specs.declared.pool.Pool.{Pool}
use Rattle.concurrent_queue.specs.declared.plain.PlainCells.{PlainCells}

module _ {T : Type 0} where
  abbrev pub block_of : PlainBlock T → BlockCells T
  block_of b = record { next = b.next; reads = b.reads; written = b.written; slots = b.slots.items }

  abbrev pub blocks_of : Pool T → List (BlockCells T)
  blocks_of p = map block_of p.blocks.items

  abbrev pub contents_of : PlainCells T → Contents T
  contents_of p =
      record {
        form = p.form;
        state = p.state;
        head = p.head;
        tail = p.tail;
        stamps = p.stamps.items;
        slots = p.slots.items;
        head_block = p.head_block;
        tail_block = p.tail_block;
        blocks = blocks_of p.pool;
        spares = p.pool.spares.items;
      }
