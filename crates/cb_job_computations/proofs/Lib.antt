mod ListFaults
