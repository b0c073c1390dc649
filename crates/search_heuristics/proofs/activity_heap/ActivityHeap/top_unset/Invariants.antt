use Rattle.search_heuristics.proofs.activity_heap.ActivityHeap.top_unset.Given as goal

abbrev pub decreases-tops : goal.decreases-tops
decreases-tops l = l.self.count
