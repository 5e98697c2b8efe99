use Rattle.std.proofs.Common.{◌≡◌, ◌≤◌, ◌+◌, length, subst, sym, arith}
use Rattle.cb_job_files.specs.StoredFiles.{AreRead}
use Rattle.cb_job_files.proofs.ReadLemmas.{read_more}
use Rattle.cb_job_files.proofs.loading.read_up_to.Goals as goal

pub loop-bytes-preserved : goal.loop-bytes-preserved
loop-bytes-preserved g c =
    let gives = g.F.StoredFile.gives c.args.file.now in
    let told = c.in_ok-count.ensures.bytes in
    let so_far = c.loop-bytes.bytes.items in
    let next : c.args.start + length so_far ≡ c.args.start + c.len-done.result = omega arith in
    let read = read_more gives c.args.start (c.args.start + c.len-done.result) so_far told.0 c.loop-bytes.invariant.read told.1 next in
    record {
      read = subst (AreRead gives c.args.start) (sym told.2) read;
      most = omega (arith, told.4);
    }
