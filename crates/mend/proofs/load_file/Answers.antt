use Rattle.std.proofs.Common.{refl, ◌++◌, [], take, lit≤, arith, rules, inr}
use Rattle.std.proofs.KnownBytes.{Consumes-nil, Consumes-trans}
use Rattle.index_loading.specs.Steps.{on_bytes}
use Rattle.mend.proofs.Files.{loads_on, loads_end}
use Rattle.mend.proofs.load_file.Goals as goal

pub loop-init : goal.loop-init
unfolding on_bytes
loop-init g c = record { buffer = refl; bytes = ([], Consumes-nil _, λ h. record { few = lit≤ tt; stands = refl }) }

pub returns-then-n-buffer : goal.returns-then-n-buffer
returns-then-n-buffer g c =
    let l = c.loop in
    let k = l.invariant.bytes in
    let n = c.in-Ok.n in
    let b = take n c.fill.new.buffer in
    inr (record {
      number = c.load_end-end.result.refusal;
      refusal = c.answered.ensures;
      loads = record {
        fills = record {
          file = k.0 ++ b;
          loaded = λ h. loads_end c.args.table.now (k.0 ++ b) (omega (arith, h, l.auto.line, c.load-s.auto.line))
              (loads_on c.args.table.now k.0 (omega (arith, h, l.auto.line)) (k.2 h) b c.load-s.ensures) c.load_end-end.ensures;
        };
        read = Consumes-trans _ _ _ _ _ k.1 c.in-Ok.ensures.bytes;
        end = c.in-Ok.ensures.end (omega arith);
      };
    })

pub loop-preserved : goal.loop-preserved
loop-preserved g c =
    let l = c.loop in
    let k = l.invariant.bytes in
    let n = c.in-Ok.n in
    let b = take n c.fill.new.buffer in
    record {
      buffer = search rules;
      bytes = (
        k.0 ++ b,
        Consumes-trans _ _ _ _ _ k.1 c.in-Ok.ensures.bytes,
        λ h. loads_on c.args.table.now k.0 (omega (arith, h, l.auto.line)) (k.2 h) b c.load-s.ensures,
      );
    }
