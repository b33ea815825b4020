use Rattle.layer_files.proofs.Again.{read_again}
use Rattle.layer_files.proofs.write.write.Goals as goal

pub returns-clause-reads_back : goal.returns-clause-reads_back
returns-clause-reads_back c = read_again c.args.layer.now c.measure-len.result c.args.buffer.now c.fill.new.buffer c.measure-len.ensures c.fill.ensures
